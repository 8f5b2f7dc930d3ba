use Rattle.std.proofs.Common.{Some, None}
use Rattle.std.proofs.lemmas.Str.Pattern.{split_parts}
use Rattle.cet_cli.proofs.Signs.{split_back, split_front, whole_back, whole_front}
use Rattle.cet_cli.proofs.parts.parted.Goals as goal

pub returns-in-Some-clause-front : goal.returns-in-Some-clause-front
returns-in-Some-clause-front c =
    let parts = split_parts c.args.sign c.args.text.now (Some (c.in-Some.front, c.in-Some.back)) c.in-Some.ensures.cases c.requires in
    split_front c.args.sign c.args.text.now c.in-Some.front.now c.in-Some.back.now parts.0 parts.1

pub returns-in-Some-clause-back : goal.returns-in-Some-clause-back
returns-in-Some-clause-back c =
    let parts = split_parts c.args.sign c.args.text.now (Some (c.in-Some.front, c.in-Some.back)) c.in-Some.ensures.cases c.requires in
    split_back c.args.sign c.args.text.now c.in-Some.front.now c.in-Some.back.now parts.0 parts.1

pub returns-in-None-clause-front : goal.returns-in-None-clause-front
returns-in-None-clause-front c = whole_front c.args.sign c.args.text.now (split_parts c.args.sign c.args.text.now None c.in-None.ensures.cases c.requires)

pub returns-in-None-clause-back : goal.returns-in-None-clause-back
returns-in-None-clause-back c = whole_back c.args.sign c.args.text.now (split_parts c.args.sign c.args.text.now None c.in-None.ensures.cases c.requires)

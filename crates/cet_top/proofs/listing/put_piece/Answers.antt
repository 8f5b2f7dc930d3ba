use Rattle.std.proofs.Common.{◌++◌, take, sym, ◌∙◌, ap, refl, arith, lit≤}
use Rattle.std.proofs.lemmas.List.{length-take-le, take-append-drop}
use Rattle.std.specs.Prelude.{slice_index}
use Rattle.cet_isa.proofs.ReadingLaws.{decoded_within}
use Rattle.cet_top.specs.Listing.{Instruction, Lone, piece_line}
use Rattle.cet_top.proofs.Listed.{first_byte, none_begins}
use Rattle.cet_top.proofs.listing.put_piece.Goals as goal

pub split_at-requires : goal.split_at-requires
split_at-requires c = (decoded_within c.args.code.now c.in-Ok.instr c.in-Ok.len (sym c.in-Ok.ensures.reads)).1

pub returns-in_ok-put_instruction-in-Ok-clause-some : goal.returns-in_ok-put_instruction-in-Ok-clause-some
returns-in_ok-put_instruction-in-Ok-clause-some c =
    let within = decoded_within c.args.code.now c.in-Ok.instr c.in-Ok.len (sym c.in-Ok.ensures.reads) in
    omega (arith, within.0)

pub returns-in_ok-put_instruction-in-Ok-clause-piece : goal.returns-in_ok-put_instruction-in-Ok-clause-piece
returns-in_ok-put_instruction-in-Ok-clause-piece c =
    let code = c.args.code.now in
    let len = c.in-Ok.len in
    let within = decoded_within code c.in-Ok.instr len (sym c.in-Ok.ensures.reads) in
    let begins = (c.in-Ok.ensures.exact.read c.in-Ok.instr len).0 refl in (
      Instruction c.in-Ok.instr (take len code),
      begins.spelled,
      sym (length-take-le len code within.1),
      sym (take-append-drop len code),
      c.in_ok-put_instruction-in-Ok.ensures ∙ ap (λ l. c.args.out.now ++ piece_line c.args.addr (Instruction c.in-Ok.instr l)) c.split_at.ensures.front,
    )

pub returns-in_ok-put_lone-in-Short : goal.returns-in_ok-put_lone-in-Short
returns-in_ok-put_lone-in-Short c =
    let code = c.args.code.now in
    let none = none_begins c.decode.result code c.decode.ensures.exact c.in-Short.is in
    record { some = lit≤ tt; piece = (Lone (slice_index code 0), none, refl, first_byte code c.requires, c.in_ok-put_lone-in-Short.ensures) }

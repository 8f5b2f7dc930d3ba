-- The texts are short ones.
use Rattle.std.proofs.Common.{ℕ, ◌+◌, ◌≤◌, ◌<◌, ◌≡◌, ◌^◌, true, List, [], ◌∷◌, ◌++◌, length, refl, ap, ◌∙◌, arith}
use Rattle.std.specs.Prelude.{codes, nat_le}
use Rattle.std.specs.Fmt.{decimal}
use Rattle.std.proofs.lemmas.Bool.{leb-true}
use Rattle.std.proofs.lemmas.Fmt.{length-decimal-le}
use Rattle.std.proofs.lemmas.Grind.{flat_map-append}
use Rattle.std.proofs.lemmas.List.{length-append}
use Rattle.cet_ctx.specs.Bench.{bench, places, rounds, setup, work}
use Rattle.cet_ctx.specs.Lines.{most_text, text_of}
use Rattle.cet_ctx.specs.Runtime.{runtime}

pub runtime_short : length runtime ≤ most_text
runtime_short = leb-true (length runtime) most_text refl

-- what stands behind the line of the count
abbrev rest : List (List ℕ)
rest = rounds ++ work ++ places

front_short : length (text_of setup) ≤ 1000
front_short = leb-true (length (text_of setup)) 1000 refl

rest_short : length (text_of rest) ≤ 1000
rest_short = leb-true (length (text_of rest)) 1000 refl

pub bench_short : (n : ℕ) → n ≤ 1000 → length (bench n) ≤ most_text
bench_short n few =
    let line : List ℕ = codes "mov ebp, " ++ decimal n in
    let parts : bench n ≡ text_of setup ++ text_of (line ∷ rest) = flat_map-append (λ l. l ++ 10 ∷ []) setup (line ∷ rest) in
    let all : length (bench n) ≡ length (text_of setup) + length (text_of (line ∷ rest)) = ap (λ (l : List ℕ). length l) parts ∙ length-append (text_of setup) (text_of (line ∷ rest)) in
    let end : length (text_of (line ∷ rest)) ≡ length (line ++ 10 ∷ []) + length (text_of rest) = length-append (line ++ 10 ∷ []) (text_of rest) in
    let here : length (line ++ 10 ∷ []) ≡ length line + 1 = length-append line (10 ∷ []) in
    let words : length line ≡ 9 + length (decimal n) = length-append (codes "mov ebp, ") (decimal n) in
    let digits = length-decimal-le 4 n (omega arith) (omega arith) (omega arith) in
    let front = front_short in
    let back = rest_short in
    omega arith

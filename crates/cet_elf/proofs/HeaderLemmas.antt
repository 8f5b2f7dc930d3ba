-- Program headers in the order of their table.
use Rattle.std.proofs.Common.{◌≡◌, ℕ, ◌+◌, ◌*◌, List, [], ◌∷◌, ◌++◌, ap, ◌∙◌, sym, refl, arith}
use Rattle.std.proofs.lemmas.List.FromFn.{map-range_with_len_more}
use Rattle.cet_elf.specs.Headers.{header_at, headers_from}
use Rattle.cet_elf.specs.declared.headers.ProgramHeader.{ProgramHeader}

pub no_headers : (bytes : List ℕ) (table : ℕ) → [] ≡ headers_from bytes table 0
unfolding headers_from
no_headers bytes table = refl

pub one_more : (bytes : List ℕ) (table index : ℕ) (old new : List ProgramHeader) (h : ProgramHeader) → old ≡ headers_from bytes table index → new ≡ old ++ h ∷ [] →
    h ≡ header_at bytes (table + 56 * index) → new ≡ headers_from bytes table (index + 1)
unfolding headers_from
one_more bytes table index old new h before now is =
    now ∙ ap (λ hs. hs ++ h ∷ []) before ∙ ap (λ g. headers_from bytes table index ++ g ∷ []) is
    ∙ sym (map-range_with_len_more (λ i. header_at bytes (table + 56 * i)) 0 index index (omega arith))

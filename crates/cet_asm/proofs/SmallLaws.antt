-- All places of a text are within what a program may be.
use Rattle.std.proofs.Common.{◌≡◌, ℕ, ◌≤◌, Bool, true, false, cond, List, [], ◌∷◌, Option, Some, None, IfSome, refl, sym, subst, arith}
use Rattle.std.specs.List.{find}
use Rattle.std.specs.Str.{bytes_eq}
use Rattle.cet_syntax.specs.Line.{Line, Statement, Nothing, Broken, TextSection, DataSection, Mark, Zero, Values, Quads, Code}
use Rattle.std.specs.Option.{option_or}
use Rattle.cet_asm.specs.Layout.{after, symbol_of, start, exceeds, grown, is_too_long, size_of, program_limit}
use Rattle.cet_asm.specs.Program.{entries_of, entries_from, end_from, symbol_in, place_of, symbols_of}
use Rattle.cet_asm.specs.Passes.{IsWithin}
use Rattle.cet_asm.specs.Places.{IsSmall}
use Rattle.cet_asm.specs.declared.sections.Section.{Section}
use Rattle.cet_asm.specs.declared.sections.Section.TheVariants as sections
use Rattle.cet_asm.specs.declared.sections.LocationCounter.{LocationCounter}
use Rattle.cet_asm.specs.declared.sections.SymbolValue.{SymbolValue}
use Rattle.cet_asm.proofs.LayoutLaws.{page_up_least}
use Rattle.cet_asm.proofs.PassLaws.{place_append}

short_within : (h : LocationCounter) → exceeds h ≡ false → IsWithin h
short_within h e = (grind (arith, page_up_least h.text), grind (arith, page_up_least h.text))

moved_within : (h : LocationCounter) (n : ℕ) → IsWithin h → IsWithin (cond (exceeds (grown h n)) h (grown h n))
moved_within h n k = go (exceeds (grown h n)) refl
  where
    go : (t : Bool) → exceeds (grown h n) ≡ t → IsWithin (cond t h (grown h n))
    go true e = k
    go false e = short_within (grown h n) e

after_within : (h : LocationCounter) (s : Statement) → IsWithin h → IsWithin (after h s)
unfolding after is_too_long
after_within h TextSection k = k
after_within h DataSection k = k
after_within h Nothing k = moved_within h (size_of Nothing) k
after_within h (Broken r) k = moved_within h (size_of (Broken r)) k
after_within h (Mark n) k = moved_within h (size_of (Mark n)) k
after_within h (Zero n) k = moved_within h (size_of (Zero n)) k
after_within h (Values bytes) k = moved_within h (size_of (Values bytes)) k
after_within h (Quads items) k = moved_within h (size_of (Quads items)) k
after_within h (Code i u) k = moved_within h (size_of (Code i u)) k

end_within : (h : LocationCounter) (ls : List Line) → IsWithin h → IsWithin (end_from h ls)
end_within h [] k = k
end_within h (l ∷ ls) k = end_within (after h l.statement) ls (after_within h l.statement k)

abbrev Low : Option SymbolValue → Type 0
Low o = IfSome o (λ symbol. symbol.offset ≤ program_limit)

symbol_low : (h : LocationCounter) → IsWithin h → (symbol_of h).offset ≤ program_limit
symbol_low h k = go h.section
  where
    go : (s : Section) → (symbol_of (record h { section = s })).offset ≤ program_limit
    go sections.Text = k.0
    go sections.Data = k.1

labels_low : (symbol : SymbolValue) (names : List (List ℕ)) (q : List ℕ) → symbol.offset ≤ program_limit → Low (place_of (entries_of symbol names) q)
labels_low symbol [] q k = tt
labels_low symbol (name ∷ names) q k = go (bytes_eq name q) (labels_low symbol names q k)
  where
    go : (t : Bool) → Low (place_of (entries_of symbol names) q) → Low (symbol_in (cond t (Some (record { name = name; symbol = symbol })) (find (λ e. bytes_eq e.name q) (entries_of symbol names))))
    go true h = k
    go false h = h

option_or_low : (x y : Option SymbolValue) → Low x → Low y → Low (option_or x y)
option_or_low None y h k = k
option_or_low (Some s) y h k = h

entries_low : (h : LocationCounter) (ls : List Line) (q : List ℕ) → IsWithin h → Low (place_of (entries_from h ls) q)
entries_low h [] q k = tt
entries_low h (l ∷ ls) q k =
    subst Low (sym (place_append (entries_of (symbol_of h) l.labels) (entries_from (after h l.statement) ls) q))
    (option_or_low (place_of (entries_of (symbol_of h) l.labels) q) (place_of (entries_from (after h l.statement) ls) q)
    (labels_low (symbol_of h) l.labels q (symbol_low h k))
    (entries_low (after h l.statement) ls q (after_within h l.statement k)))

start_within : IsWithin start
start_within = (omega arith, omega arith)

pub symbols_small : (ls : List Line) → IsSmall (symbols_of ls)
symbols_small ls = ((end_within start ls start_within).0, λ q. entries_low start ls q start_within)

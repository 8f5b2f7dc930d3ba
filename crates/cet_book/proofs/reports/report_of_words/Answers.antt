use Rattle.std.proofs.Common.{◌≡◌, ◌∙◌, ◌+◌, ◌*◌, ◌<◌, ◌^◌, sym, ap, subst, List, ℕ, [], length, get_or, map}
use Rattle.std.proofs.lemmas.Result.{IfOk-weaker}
use Rattle.cet_book.specs.View.{Span, no_span, region_words}
use Rattle.cet_book.specs.Marks.{Found, found_of, reports, word_report}
use Rattle.cet_book.specs.declared.marks.Mark.{Mark}
use Rattle.cet_book.specs.declared.regions.StackReport.{StackReport}
use Rattle.cet_book.proofs.Shows.{fits, shown_is}
use Rattle.cet_book.proofs.reports.report_of_words.Goals as goal

-- copies are no longer than their regions
all_fit : (W : List ℕ) (rs : List Span) (copies items : List (List ℕ)) → copies ≡ items → items ≡ map (region_words W) rs →
    ((k : ℕ) → k < length rs → (get_or rs k no_span).start + 8 * length (get_or (map (region_words W) rs) k []) < 2 ^ 63) → (k : ℕ) → k < length rs →
    (get_or rs k no_span).start + 8 * length (get_or copies k []) < 2 ^ 63
all_fit W rs copies items e f h k l = subst (λ s. (get_or rs k no_span).start + 8 * length (get_or s k []) < 2 ^ 63) (sym (e ∙ f)) (h k l)

pub found_of-requires-clause-fit : goal.found_of-requires-clause-fit
found_of-requires-clause-fit g c = all_fit _ c.args.regions.now c.deref.result.now c.in_ok-copies.copies.items c.deref.ensures.value c.in_ok-copies.ensures.read (fits _ c.args.regions.now c.requires.each)

by_copies : (W : List ℕ) (rs : List Span) (ssps : List (ℕ × ℕ)) (items copies copies' : List (List ℕ)) (found : Found) (marks : List Mark) → items ≡ map (region_words W) rs → copies ≡ items →
    copies' ≡ items → found ≡ found_of rs copies ssps → marks ≡ found.marks → (list : List StackReport) → list ≡ reports rs copies' marks (length rs) → list ≡ word_report W rs ssps
by_copies W rs ssps items copies copies' found marks e f f' h h' list r =
    r ∙ ap (λ s. reports rs s marks (length rs)) (f' ∙ e) ∙
    ap (λ m. reports rs (map (region_words W) rs) m (length rs)) (h' ∙ ap (λ (x : Found). x.marks) (h ∙ ap (λ s. found_of rs s ssps) (f ∙ e)))

pub returns-clause-exact : goal.returns-clause-exact
returns-clause-exact g c =
    IfOk-weaker c.reports_of.result _ _
    (by_copies _ c.args.regions.now c.args.ssps.now c.in_ok-copies.copies.items c.deref.result.now c.deref-2.result.now c.in_ok-found.found c.deref-3.result.now
    c.in_ok-copies.ensures.read c.deref.ensures.value c.deref-2.ensures.value c.in_ok-found.ensures.found (c.deref-3.ensures.value ∙ ap (λ (f : Found). f.marks) c.found.view_is)) c.reports_of.ensures

pub returns-clause-shown : goal.returns-clause-shown
returns-clause-shown g c =
    IfOk-weaker c.reports_of.result _ _
    (λ list r image b numbers facts covers. r ∙ shown_is (record { facts = facts; covers = covers; asked = c.requires }))
    (returns-clause-exact g c)

-- The book of shadow stacks: lists of entries with their holders, and what each change makes of them. Source: Intel SDM
-- volume 1, chapter on CET, as lists (no words, token bits, page entries or exchanges); own for makers and blanks.
use Rattle.std.proofs.Common.{zero, suc}
use Rattle.std.specs.Prelude.{ℕ, ◌+◌, ◌-◌, ◌*◌, ◌/◌, ◌%◌, Bool, true, false, ◌&&◌, ◌==◌, nat_lt, nat_le, if◌then◌else◌, List, [], ◌∷◌}
use Rattle.std.specs.Prelude.{◌++◌, length, replicate, slice_index_or, slice_set, Option, Some, None, option_and_then}
use Rattle.std.specs.List.{position_or_len}
use Rattle.cet_words.specs.Layout.{first_region_end, first_region_start, shadow_start, last_region_end, most_stack_pages}
use Rattle.cet_book.specs.declared.entries.Entry.{Entry}
use Rattle.cet_book.specs.declared.entries.Entry.TheVariants.{Call, Restorer, Frame, Previous, Blank}
use Rattle.cet_book.specs.declared.entries.Holder.{Holder}
use Rattle.cet_book.specs.declared.entries.Holder.TheVariants.{Maker, Current, Parked, Left, Lost}
use Rattle.cet_book.specs.declared.events.Event.{Event}
use Rattle.cet_book.specs.declared.events.Event.TheVariants as event
use Rattle.cet_words.specs.Change.{Change, Called, Returned, Raised, Acquired, Released, Claimed, Seeded, Born, Pushed, Popped, Ended, Busied, Freed}

-- a shadow stack: addresses from start up to end, its entries with the newest first, and its one holder
pub record Region : Type 0 where
  pub start : ℕ
  pub end : ℕ
  pub entries : List Entry
  pub holder : Holder

pub record Book : Type 0 where
  -- in the order of their claims; a region's number is its place
  pub regions : List Region
  -- the thread that holds each supervisor stack
  pub stacks : List (Option ℕ)

-- what stands past the last region
abbrev pub nowhere : Region
nowhere = record { start = 0; end = 0; entries = []; holder = Lost }

abbrev pub region : Book → ℕ → Region
region b i = slice_index_or b.regions i nowhere

abbrev pub put : Book → ℕ → Region → Book
put b i r = record b { regions = slice_set b.regions i r }

abbrev pub stack_of : Book → ℕ → Option ℕ
stack_of b k = slice_index_or b.stacks k None

abbrev pub put_stack : Book → ℕ → Option ℕ → Book
put_stack b k o = record b { stacks = slice_set b.stacks k o }

-- how many entries a region has room for
abbrev pub capacity : Region → ℕ
capacity r = (r.end - r.start) / 8

-- the address of the newest entry
abbrev pub top : Region → ℕ
top r = r.end - 8 * length r.entries

abbrev pub is_current : ℕ → Holder → Bool
is_current t (Maker x) = false
is_current t (Current x) = x == t
is_current t Parked = false
is_current t (Left x) = false
is_current t Lost = false

abbrev pub is_maker : ℕ → Holder → Bool
is_maker t (Maker x) = x == t
is_maker t (Current x) = false
is_maker t Parked = false
is_maker t (Left x) = false
is_maker t Lost = false

abbrev pub is_parked : Holder → Bool
is_parked (Maker x) = false
is_parked (Current x) = false
is_parked Parked = true
is_parked (Left x) = false
is_parked Lost = false

abbrev pub holds_stack : ℕ → Option ℕ → Bool
holds_stack t None = false
holds_stack t (Some x) = x == t

abbrev pub is_free : Option ℕ → Bool
is_free None = true
is_free (Some x) = false

-- the region is parked, and its token stands at p
abbrev pub has_token : ℕ → Region → Bool
has_token p r = is_parked r.holder && top r == p + 8

-- The number of the first region that is current on a thread, has its token at an address, or starts at an address, and
-- the first supervisor stack that a thread holds. Where there is none it is the length of the list.
unfoldable pub current_of : ℕ → Book → ℕ
current_of t b = position_or_len (λ r. is_current t r.holder) b.regions

unfoldable pub parked_at : ℕ → Book → ℕ
parked_at p b = position_or_len (has_token p) b.regions

unfoldable pub starting_at : ℕ → Book → ℕ
starting_at start b = position_or_len (λ r. r.start == start) b.regions

unfoldable pub held_by : ℕ → Book → ℕ
held_by t b = position_or_len (holds_stack t) b.stacks

-- what is done with the region that is current on a thread, where there is one
abbrev pub with_current : ℕ → Book → (ℕ → Region → Option Book) → Option Book
with_current t b f =
    if nat_lt (current_of t b) (length b.regions) then f (current_of t b) (region b (current_of t b)) else None

abbrev pub with_entry : Entry → Region → Region
with_entry e r = record r { entries = e ∷ r.entries }

-- the list of region m is es
abbrev pub relist : ℕ → List Entry → Book → Book
relist m es b = put b m (record (region b m) { entries = es })

-- the newest entry Previous(s) of region m goes, and region s, which is another one, has another holder
abbrev pub unlink : ℕ → ℕ → List Entry → Holder → Book → Book
unlink m s es h b = put (relist m es b) s (record (region b s) { holder = h })

abbrev pub called : ℕ → ℕ → Region → Book → Option Book
called back m r b = if nat_lt (length r.entries) (capacity r) then Some (put b m (with_entry (Call back) r)) else None

abbrev pub returned : ℕ → List Entry → Book → Option Book
returned m [] b = None
returned m (Call x ∷ es) b = Some (relist m es b)
returned m (Restorer x ∷ es) b = Some (relist m es b)
returned m (Frame ∷ es) b = None
returned m (Previous s ∷ es) b = Some (unlink m s es Lost b)
returned m (Blank ∷ es) b = Some (relist m es b)

-- the newest entry of region m goes
abbrev pub remove_entry : ℕ → List Entry → Book → Option Book
remove_entry m [] b = None
remove_entry m (Call x ∷ es) b = Some (relist m es b)
remove_entry m (Restorer x ∷ es) b = Some (relist m es b)
remove_entry m (Frame ∷ es) b = Some (relist m es b)
remove_entry m (Previous s ∷ es) b = Some (unlink m s es Lost b)
remove_entry m (Blank ∷ es) b = Some (relist m es b)

abbrev pub raised : ℕ → ℕ → Book → Option Book
raised m zero b = Some b
raised m (suc n) b = option_and_then (raised m n) (remove_entry m (region b m).entries b)

-- region q becomes current on t, and m is left for it
abbrev pub acquire : ℕ → ℕ → ℕ → Book → Book
acquire t m q b =
    put (put b m (record (region b m) { holder = Left q })) q
    (record (region b q) { entries = Previous m ∷ (region b q).entries; holder = Current t })

abbrev pub acquired : ℕ → ℕ → ℕ → Book → Option Book
acquired t p m b = if nat_lt (parked_at p b) (length b.regions) then Some (acquire t m (parked_at p b) b) else None

abbrev pub released : ℕ → List Entry → Book → Option Book
released m [] b = None
released m (Call x ∷ es) b = None
released m (Restorer x ∷ es) b = None
released m (Frame ∷ es) b = None
released m (Previous s ∷ es) b =
    if nat_lt (length (region b s).entries) (capacity (region b s)) then Some (unlink m s es Parked b) else None
released m (Blank ∷ es) b = None

abbrev pub claim : ℕ → ℕ → ℕ → Bool → Region
claim t start pages maker =
    record { start = start; end = start + 4096 * pages; entries = []; holder = if maker then Maker t else Lost }

-- the end of the last region, or the start of the shadow area where there is no region
abbrev pub last_end : Book → ℕ
last_end b = if nat_lt 0 (length b.regions) then (region b (length b.regions - 1)).end else shadow_start

abbrev pub can_claim : ℕ → ℕ → Book → Bool
can_claim start pages b =
    nat_le 1 pages && nat_le pages most_stack_pages && start % 4096 == 0 && nat_le (last_end b + 4096) start &&
    nat_le (start + 4096 * pages) last_region_end

abbrev pub claimed : ℕ → ℕ → ℕ → Bool → Book → Option Book
claimed t start pages maker b =
    if can_claim start pages b then Some (record b { regions = b.regions ++ claim t start pages maker ∷ [] }) else None

abbrev pub seeded : ℕ → ℕ → ℕ → Book → Option Book
seeded t s blanks b =
    if is_maker t (region b s).holder && nat_lt blanks (capacity (region b s))
    then Some (put b s (record (region b s) { entries = replicate blanks Blank; holder = Parked })) else None

abbrev pub born : ℕ → ℕ → ℕ → Book → Option Book
born t child s b =
    if is_maker t (region b s).holder && nat_le (length b.regions) (current_of child b)
    then Some (put b s (record (region b s) { holder = Current child })) else None

abbrev pub pushed : ℕ → ℕ → Region → Book → Option Book
pushed x m r b =
    if nat_le (length r.entries + 2) (capacity r) then Some (put b m (with_entry (Restorer x) (with_entry Frame r))) else None

abbrev pub popped : ℕ → List Entry → Book → Option Book
popped m [] b = None
popped m (Call x ∷ es) b = None
popped m (Restorer x ∷ es) b = None
popped m (Frame ∷ es) b = Some (relist m es b)
popped m (Previous s ∷ es) b = None
popped m (Blank ∷ es) b = None

abbrev pub ended : ℕ → Region → Book → Option Book
ended m r b = Some (put b m (record r { holder = Lost }))

abbrev pub busied : ℕ → ℕ → Book → Option Book
busied t k b =
    if nat_lt k 8 && is_free (stack_of b k) && nat_le (length b.stacks) (held_by t b) then Some (put_stack b k (Some t)) else None

abbrev pub freed : ℕ → ℕ → Book → Option Book
freed t k b = if holds_stack t (stack_of b k) then Some (put_stack b k None) else None

-- the book after an event, or None where the book has no such event
abbrev pub book_step : Book → Event → Option Book
book_step b (event.Called t back) = with_current t b (λ m r. called back m r b)
book_step b (event.Returned t) = with_current t b (λ m r. returned m r.entries b)
book_step b (event.Raised t count) = with_current t b (λ m r. raised m count b)
book_step b (event.Acquired t at) = with_current t b (λ m r. acquired t at m b)
book_step b (event.Released t) = with_current t b (λ m r. released m r.entries b)
book_step b (event.Claimed t start pages maker) = claimed t start pages maker b
book_step b (event.Seeded t s blanks) = seeded t s blanks b
book_step b (event.Born parent child s) = born parent child s b
book_step b (event.Pushed t restorer) = with_current t b (λ m r. pushed restorer m r b)
book_step b (event.Popped t) = with_current t b (λ m r. popped m r.entries b)
book_step b (event.Ended t) = with_current t b (λ m r. ended m r b)
book_step b (event.Busied t stack) = busied t stack b
book_step b (event.Freed t stack) = freed t stack b

-- the event that a thread's change is: a row tells a region by its start, and an event by its number
abbrev pub event_of : Book → (t : ℕ) → Change → Event
event_of b t (Called back) = event.Called t back
event_of b t Returned = event.Returned t
event_of b t (Raised count) = event.Raised t count
event_of b t (Acquired at) = event.Acquired t at
event_of b t Released = event.Released t
event_of b t (Claimed start pages maker) = event.Claimed t start pages maker
event_of b t (Seeded start blanks) = event.Seeded t (starting_at start b) blanks
event_of b t (Born child start) = event.Born t child (starting_at start b)
event_of b t (Pushed restorer) = event.Pushed t restorer
event_of b t Popped = event.Popped t
event_of b t Ended = event.Ended t
event_of b t (Busied stack) = event.Busied t stack
event_of b t (Freed stack) = event.Freed t stack

-- the book after a change by a thread: that after its event
abbrev pub book_after : ℕ → Book → Change → Option Book
book_after t b c = book_step b (event_of b t c)

-- the book after changes, one after another
abbrev pub books_after : ℕ → Book → List Change → Option Book
books_after t b [] = Some b
books_after t b (c ∷ cs) = option_and_then (λ next. books_after t next cs) (book_after t b c)

-- the book at the start: thread 0 on a region of eight pages
abbrev pub first_book : Book
first_book = record {
  regions = record { start = first_region_start; end = first_region_end; entries = []; holder = Current 0 } ∷ [];
  stacks = None ∷ None ∷ None ∷ None ∷ None ∷ None ∷ None ∷ None ∷ [];
}

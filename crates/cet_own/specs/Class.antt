-- The classes of accesses, by what an access can do to the book of shadow stacks, and what each may change there. Source: own.
use Rattle.std.specs.Prelude.{ℕ, ◌+◌, ◌-◌, ◌*◌, ◌%◌, ◌^◌, Bool, true, false, not, ◌&&◌, ◌||◌, ◌==◌, nat_lt, nat_le, if◌then◌else◌, List, [], ◌∷◌, Option, is_some}
use Rattle.cet_words.specs.Change.{Change, Called, Returned, Raised, Acquired, Released, Claimed, Seeded, Born, Pushed, Popped, Ended, Busied, Freed}
use Rattle.cet_words.specs.Layout.{within, shadow_start, first_shadow_page, first_kernel_page, first_shadow_word, first_kernel_word, next_thread_word, draw_shadow_word, thread_limit, token_word}
use Rattle.cet_words.specs.declared.accesses.Access.{Access}
use Rattle.cet_words.specs.declared.accesses.Access.TheVariants as access
use Rattle.cet_isa.specs.declared.threads.Arch.{Arch}
use Rattle.cet_page.specs.Tokens.{restore_token}
use Rattle.cet_own.specs.declared.access_classes.Class.{Class}
use Rattle.cet_own.specs.declared.access_classes.Class.TheVariants as class

-- ---- where an access goes

abbrev pub is_shadow_word : (word : ℕ) → Bool
is_shadow_word word = within first_shadow_word first_kernel_word word

-- the address of a word of the shadow area
abbrev pub address_of : (word : ℕ) → ℕ
address_of word = shadow_start + 8 * (word - first_shadow_word)

-- the word is the token of a supervisor stack
abbrev pub is_supervisor_token : (word : ℕ) → Bool
is_supervisor_token word = nat_le (token_word 0) word && nat_le word (token_word 7) && (word - token_word 0) % 1024 == 0

-- ---- what it does there

-- an exchange finds the word that it expects in the shadow area
abbrev pub finds_word : Access → (value : ℕ) → Bool
finds_word (access.CompareExchange word expected next) value = is_shadow_word word && value == expected
finds_word a value = false

-- a restore token for the address above it is stored in the shadow area
abbrev pub stores_token : Access → Bool
stores_token (access.Store word next) = is_shadow_word word && next == restore_token (address_of word + 8)
stores_token a = false

-- the number of a thread is drawn, and there is one left
abbrev pub draws_number : Access → (value : ℕ) → Bool
draws_number (access.FetchAdd word n) value = word == next_thread_word && nat_lt value thread_limit
draws_number a value = false

-- a word without bit 63 is stored right below SSP, or any word below that one
abbrev pub stores_below : Access → (ssp : ℕ) → Bool
stores_below (access.Store word next) ssp =
    is_shadow_word word && (address_of word + 8 == ssp && nat_lt next (2 ^ 63) || address_of word + 16 == ssp)
stores_below a ssp = false

abbrev pub draws_pages : Access → Bool
draws_pages (access.FetchAdd word n) = word == draw_shadow_word
draws_pages a = false

abbrev pub exchanges_token : Access → Bool
exchanges_token (access.CompareExchange word expected next) = is_supervisor_token word
exchanges_token a = false

-- the word at SSP is loaded, or a page of the shadow area looked at
abbrev pub reads_stack : Access → (ssp : ℕ) → Bool
reads_stack (access.Load word) ssp = is_shadow_word word && address_of word == ssp
reads_stack (access.Look page) ssp = within first_shadow_page first_kernel_page page
reads_stack a ssp = false

-- ---- the classes

-- the class of an access, by SSP and the held supervisor stack before it and by its answer: the first that fits
abbrev pub class_at : Access → (ssp : ℕ) → (held : Option ℕ) → (value : ℕ) → Class
class_at a ssp held value =
    if finds_word a value then class.Acquire
    else if stores_token a && not (is_some held) then class.Release
    else if stores_token a && is_some held || draws_number a value then class.Seed
    else if stores_below a ssp then class.Push
    else if draws_pages a then class.Claim
    else if exchanges_token a && is_some held then class.End
    else if reads_stack a ssp && not (is_some held) then class.Raise
    else class.Neutral

abbrev pub class_by : Access → Arch → (value : ℕ) → Class
class_by a arch value = class_at a arch.ssp arch.held value

-- the class may have the change
abbrev pub is_of : Class → Change → Bool
is_of class.Acquire (Acquired at) = true
is_of class.Release Released = true
is_of class.Seed (Seeded start blanks) = true
is_of class.Seed (Born child start) = true
is_of class.Push (Called back) = true
is_of class.Push (Pushed restorer) = true
is_of class.Claim (Claimed start pages maker) = true
is_of class.End Popped = true
is_of class.End Ended = true
is_of class.End (Freed stack) = true
is_of class.Raise Returned = true
is_of class.Raise (Raised count) = true
is_of class.Neutral (Busied stack) = true
is_of c change = false

abbrev pub all_of : Class → List Change → Bool
all_of c [] = true
all_of c (x ∷ xs) = is_of c x && all_of c xs

-- The words that a shadow stack has in memory. Source: Intel SDM volume 1, chapter on CET (return addresses and
-- previous-SSP tokens); a signal's frame is that of Linux, Documentation/arch/x86/shstk.rst (bit 63 and an address).
use Rattle.std.specs.Prelude.{ℕ, ◌+◌, ◌-◌, ◌/◌, ◌^◌, List, [], ◌∷◌, slice_index}
use Rattle.cet_words.specs.Layout.{first_shadow_word, shadow_start}
use Rattle.cet_book.specs.declared.entries.Entry.{Entry}
use Rattle.cet_book.specs.declared.entries.Entry.TheVariants.{Call, Restorer, Frame, Previous, Blank}
use Rattle.cet_book.specs.Book.{Book, region, top}

-- the number of the word at an address of the shadow area
abbrev pub slot : (addr : ℕ) → ℕ
slot addr = first_shadow_word + (addr - shadow_start) / 8

abbrev pub slot_word : (words : List ℕ) → (addr : ℕ) → ℕ
slot_word words addr = slice_index words (slot addr)

-- the tops of a book's regions, by their numbers
abbrev pub tops : Book → ℕ → ℕ
tops b i = top (region b i)

-- the word of an entry at an address: a return address, a frame's mark over the address above it, a token that leads to
-- the top of the region that was left, or 0
abbrev pub word_of : (tops : ℕ → ℕ) → (addr : ℕ) → Entry → ℕ
word_of tops addr (Call back) = back
word_of tops addr (Restorer back) = back
word_of tops addr Frame = 2 ^ 63 + addr + 8
word_of tops addr (Previous s) = tops s + 3
word_of tops addr Blank = 0

-- the words of entries from an address on
abbrev pub words_of : (tops : ℕ → ℕ) → (addr : ℕ) → List Entry → List ℕ
words_of tops addr [] = []
words_of tops addr (e ∷ es) = word_of tops addr e ∷ words_of tops (addr + 8) es

-- What a thread claims of the accesses to operands, each with what follows it. Source: own.
use Rattle.std.proofs.Common.{ℕ, ◌%◌, refl, List, arith}
use Rattle.std.specs.Int.{cast_unsigned}
use Rattle.cet_words.specs.Job.{JobData}
use Rattle.cet_words.specs.Layout.{word_in}
use Rattle.cet_isa.specs.declared.instructions.Operand.{Operand}
use Rattle.cet_isa.specs.declared.instructions.Operand.TheVariants as operand
use Rattle.cet_isa.specs.declared.instructions.Size.{Size}
use Rattle.cet_isa.specs.declared.threads.Arch.{Arch}
use Rattle.cet_page.specs.Operands.{register, effective, byte_count, bytes_at, load_word, load_at, write_place, store_at, read_operand}
use Rattle.cet_page.specs.Parts.{load_as, store_as}
use Rattle.cet_page.specs.Script.{Script, ◌>>=◌}
use Rattle.cet_page.specs.Values.{width, limit}
use Rattle.cet_page.specs.declared.checks.Kind.TheVariants as kind
use Rattle.cet_page.specs.declared.checks.Who.TheVariants.{User}
use Rattle.cet_own.specs.Holds.{IsOut}
use Rattle.cet_own.specs.Owed.{State}
use Rattle.cet_own.proofs.Classes.{plain_loads, stores}
use Rattle.cet_own.proofs.Parts.{Claim, claim_bind, check_address_then, look_then, store_look_then}
use Rattle.cet_own.proofs.Places.{load_page, page_word}
use Rattle.cet_own.proofs.Progress.{progress, untouched}
use Rattle.cet_page.specs.Trail.{Visit}
use Rattle.cet_own.proofs.Resting.{Resting, rest_kept, rest_stacked}

module _ (job : JobData) (arch : Arch) where
  pub load_at_then : {A : Type 0} (Q : List Visit → State → State → A → Type 0) (past : List Visit) (before s : State) (addr count : ℕ) (f : ℕ → Script A) →
      Resting arch.number untouched (progress past) s.book arch.ssp → ((p : List Visit) (z n : State) → Resting arch.number untouched (progress p) n.book arch.ssp → (v : ℕ) →
      Claim job arch Q p z n (f v)) → Claim job arch Q past before s (load_at addr count >>= f)
  unfolding load_at load_word load_as
  load_at_then Q past before s addr count f rest h =
      claim_bind job arch Q past before s (load_at addr count) f
      (claim_bind job arch (λ p z n x. Claim job arch Q p z n (f x)) past before s (load_word addr count) _
      (check_address_then job arch (λ p z n x. Claim job arch Q p z n (f (bytes_at addr count x))) past before s addr count _ rest (λ c e.
      look_then job arch (λ p z n x. Claim job arch Q p z n (f (bytes_at addr count x))) past before s kind.Load User addr _ rest (λ now r page v at known a.
      let rest1 = rest_kept r rest in
      let below = load_page job.image page v (known.entry page refl) a in (
        (rest_stacked rest1),
        λ later r' word known'. (plain_loads (word_in page addr) refl (λ k z. omega arith) refl, later, refl, h _ later later (rest_kept r' rest1) (bytes_at addr count word)),
      )))))

  -- a write goes to a word that matters for no stack
  pub write_place_then : {A : Type 0} (Q : List Visit → State → State → A → Type 0) (past : List Visit) (before s : State) (addr : ℕ) (f : ℕ → Script A) →
      Resting arch.number untouched (progress past) s.book arch.ssp → ((p : List Visit) (z n : State) → Resting arch.number untouched (progress p) n.book arch.ssp → (word : ℕ) → IsOut word →
      Claim job arch Q p z n (f word)) → Claim job arch Q past before s (write_place addr >>= f)
  unfolding write_place
  write_place_then Q past before s addr f rest h =
      claim_bind job arch Q past before s (write_place addr) f
      (check_address_then job arch (λ p z n x. Claim job arch Q p z n (f x)) past before s addr 8 _ rest (λ c e.
      store_look_then job arch (λ p z n x. Claim job arch Q p z n (f x)) past before s addr _ rest (λ now r page v l.
      h _ now now (rest_kept r rest) (word_in page addr) (page_word page addr l))))

  pub store_at_then : {A : Type 0} (Q : List Visit → State → State → A → Type 0) (past : List Visit) (before s : State) (addr value : ℕ) (f : Unit {0} → Script A) →
      Resting arch.number untouched (progress past) s.book arch.ssp → ((p : List Visit) (z n : State) → Resting arch.number untouched (progress p) n.book arch.ssp → Claim job arch Q p z n (f tt)) →
      Claim job arch Q past before s (store_at addr value >>= f)
  unfolding store_at store_as
  store_at_then Q past before s addr value f rest h =
      claim_bind job arch Q past before s (store_at addr value) f
      (write_place_then (λ p z n x. Claim job arch Q p z n (f x)) past before s addr _ rest (λ p z n rest1 word out. (
        (rest_stacked rest1),
        λ now r known. (stores word value refl out refl, now, refl, h _ now now (rest_kept r rest1)),
      )))

  pub read_operand_then : {A : Type 0} (Q : List Visit → State → State → A → Type 0) (past : List Visit) (before s : State) (sz : Size) (o : Operand) (next : ℕ) (f : ℕ → Script A) →
      Resting arch.number untouched (progress past) s.book arch.ssp → ((p : List Visit) (z n : State) → Resting arch.number untouched (progress p) n.book arch.ssp → (v : ℕ) →
      Claim job arch Q p z n (f v)) → Claim job arch Q past before s (read_operand arch sz o next >>= f)
  unfolding read_operand ◌>>=◌
  read_operand_then Q past before s sz (operand.Reg r) next f rest h = h past before s rest (register arch r % limit sz)
  read_operand_then Q past before s sz (operand.Imm z) next f rest h = h past before s rest (cast_unsigned (width sz) z)
  read_operand_then Q past before s sz (operand.Mem m) next f rest h = load_at_then Q past before s (effective arch m next) (byte_count sz) f rest h

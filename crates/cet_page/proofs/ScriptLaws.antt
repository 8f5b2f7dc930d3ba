-- A script after another comes to what the second comes to where the first is over. Source: own.
use Rattle.std.proofs.Common.{zero, suc}
use Rattle.std.specs.Prelude.{◌≡◌, ℕ, List, [], ◌∷◌, refl}
use Rattle.cet_page.specs.Script.{Script, ◌>>=◌, Played, play, done, fault, ask, tell, Completed, Faulted, Wants}

abbrev pub resume : {A B : Type 0} → Played A → (A → Script B) → Played B
resume (Completed x n values) f = play (f x) n values
resume (Faulted e) f = Faulted e
resume (Wants a changes) f = Wants a changes

-- the second script goes on where the first is over
pub play_bind : {A B : Type 0} (m : Script A) (f : A → Script B) (n : ℕ) (values : List ℕ) → play (m >>= f) n values ≡ resume (play m n values) f
unfolding ◌>>=◌
play_bind (done x) f n values = refl
play_bind (fault e) f n values = refl
play_bind (ask a changes k) f zero values = refl
play_bind (ask a changes k) f (suc n) [] = refl
play_bind (ask a changes k) f (suc n) (value ∷ values) = play_bind (k value) f n values
play_bind (tell word value changes k) f zero values = refl
play_bind (tell word value changes k) f (suc n) values = play_bind k f n values

-- What a history's last record adds to its play.
use Rattle.std.proofs.Common.{◌≡◌, ℕ, List, [], ◌∷◌, ◌++◌, refl}
use Rattle.dg_line.specs.Revisions.{Seen}
use Rattle.dg_desk.specs.Machine.{Event, State, after, after_all}
use Rattle.dg_desk.specs.Desks.{HasAnswer, IsPlay}

module _ {A B : Type 0} (see : A → Seen) (c : ℕ) where
  pub after_all-push : (s : State A B) (hs : List (Event A B)) (h : Event A B) → after_all see c s (hs ++ h ∷ []) ≡ after see c (after_all see c s hs) h.what
  after_all-push s [] h = refl
  after_all-push s (e ∷ es) h = after_all-push (after see c s e.what) es h

  pub play-push : (s : State A B) (hs : List (Event A B)) (h : Event A B) → IsPlay see c s hs → HasAnswer see (after_all see c s hs) h.what → IsPlay see c s (hs ++ h ∷ [])
  play-push s [] h p a = (a, tt)
  play-push s (e ∷ es) h p a = (p.0, play-push (after see c s e.what) es h p.1 a)

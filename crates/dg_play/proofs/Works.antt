-- The work that calls of a session leave.
use Rattle.std.proofs.Common.{◌≡◌, ℕ, List, [], ◌∷◌, refl, sym, subst}
use Rattle.std.proofs.Common.{eq-eqb}
use Rattle.dg_cache.specs.declared.entry.Entry.{Entry}
use Rattle.dg_line.specs.Revisions.{Seen, counter_at}
use Rattle.dg_desk.specs.Machine.{unchanged}
use Rattle.dg_play.specs.Work.{Work, moved_on}
use Rattle.dg_play.specs.Sessions.{Leaves, MovesOn, SessionView, now_in}

pub work-is : (a b : Work) → a.entries ≡ b.entries → a.made ≡ b.made → a.kept ≡ b.kept → a.late ≡ b.late → a.asks ≡ b.asks → a.evictions ≡ b.evictions → a ≡ b
work-is a b e m k l s v = λ i. record { entries = e i; made = m i; kept = k i; late = l i; asks = s i; evictions = v i }

-- a revision has its own counters
pub unchanged-same : (r : Seen) (es : List Entry) → unchanged r r es ≡ es
unchanged-same r [] = refl
unchanged-same r (x ∷ es) = rw (eq-eqb (counter_at r x.at) (counter_at r x.at) refl, unchanged-same r es) refl

pub moved_on-same : (r : Seen) (w : Work) → moved_on r r w ≡ w
moved_on-same r w = work-is (moved_on r r w) w (unchanged-same r w.entries) refl refl refl refl refl

module _ {X : Type 0} (shows : X → SessionView) (has_done : X → Seen → ℕ → Work → Type 0) where
  -- a call that left another work by an equal account
  pub leaves-as : (before now : X) (f h : ℕ → Work → Work) → ((c : ℕ) (w : Work) → f c w ≡ h c w) → Leaves has_done before now f → Leaves has_done before now h
  leaves-as before now f h same left first c w done = subst (has_done now first c) (same c w) (left first c w done)

  -- nothing was done
  pub moves-same : (x : X) → MovesOn shows has_done x x
  moves-same x first c w done = subst (has_done x first c) (sym (moved_on-same (now_in (shows x)) w)) done

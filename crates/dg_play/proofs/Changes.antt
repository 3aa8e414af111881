-- What a pin and the drop of one change of a state.
use Rattle.std.proofs.Common.{◌≡◌, ℕ, ◌<◌, ◌≤◌, nat_lt, Bool, true, false, cond, List, [], ◌∷◌, ◌++◌, Option, Some, None, not, bytes_eq, filter, is_some, length, refl, sym, ap, ◌∙◌, subst, le-ltb, lt-ltb, true≢false}
use Rattle.dg_line.specs.Revisions.{Seen}
use Rattle.dg_play.specs.declared.pins.Pin.{Pin}
use Rattle.dg_play.specs.declared.state.State.{State as CodeState}
use Rattle.dg_play.specs.Pins.{max_pins, pin_named, without_pin}
use Rattle.dg_script.specs.declared.command.EpWords.{EpWords}
use Rattle.dg_play.specs.Play.{State, NoPin, PinUsed, PinnedAt, PinsFull, ask, ask_at, dropped, pinned, unchanged, with_pin, with_pins}
use Rattle.dg_play.specs.Play.{Done as Said}
use Rattle.dg_play.specs.Seen.{number_named, pins_of, state_by}
use Rattle.dg_play.specs.Sessions.{SessionView, live_with, with_live, without_live}
use Rattle.dg_play.specs.States.{AreLive}
use Rattle.dg_play.proofs.Live.{found, live-dropped, live-pinned, named-found, number-named, pins-dropped, pins-length, pins-pinned}

module _ {P : Type 0} (shows : P → SessionView) where
  -- the pins stay live where the session shows the same ones
  pub live-same : (s z : CodeState P) → (shows z.session).live ≡ (shows s.session).live → z.pins.items ≡ s.pins.items → AreLive (shows s.session).live s.pins.items → AreLive (shows z.session).live z.pins.items
  live-same s z live pins old = subst (λ (l : ℕ → Option Seen). AreLive l z.pins.items) (sym live) (subst (AreLive (shows s.session).live) (sym pins) old)

  module _ (s z : CodeState P) (new : Pin) (pins : z.pins.items ≡ s.pins.items ++ new ∷ []) (shown : shows z.session ≡ with_live (shows s.session) new.number) (free : (shows s.session).live new.number ≡ None)
      (old : AreLive (shows s.session).live s.pins.items) where
    pub pins-added : pins_of (shows z.session).live z.pins.items ≡ pins_of (shows s.session).live s.pins.items ++ record { name = new.name; revision = (shows s.session).editor.now } ∷ []
    pins-added =
        ap (λ (v : SessionView). pins_of v.live z.pins.items) shown
        ∙ ap (pins_of (live_with (shows s.session) new.number)) pins
        ∙ pins-pinned (shows s.session) s.pins.items new free old

    pub live-added : number_named s.pins.items new.name ≡ None → AreLive (shows z.session).live z.pins.items
    live-added unnamed =
        subst (λ (v : SessionView). AreLive v.live z.pins.items) (sym shown)
        (subst (AreLive (live_with (shows s.session) new.number)) (sym pins) (live-pinned (shows s.session) s.pins.items new free old unnamed))

    pub turn-added : z.bound ≡ s.bound → z.names ≡ s.names → with_pin (state_by shows s) new.name ≡ record { state = state_by shows z; reply = PinnedAt (shows s.session).editor.now.number }
    turn-added bound names = sym (λ i. record {
      state = record { editor = (shown i).editor; pins = pins-added i; bound = bound i; names = names i };
      reply = PinnedAt (shows s.session).editor.now.number;
    })

  module _ (s z : CodeState P) (name : List ℕ) (n : ℕ) (is : number_named s.pins.items name ≡ Some n) (pins : z.pins.items ≡ filter (λ (p : Pin). not (bytes_eq p.name name)) s.pins.items)
      (shown : shows z.session ≡ without_live (shows s.session) n) (old : AreLive (shows s.session).live s.pins.items) where
    pub pins-removed : pins_of (shows z.session).live z.pins.items ≡ without_pin name (pins_of (shows s.session).live s.pins.items)
    pins-removed =
        ap (λ (v : SessionView). pins_of v.live z.pins.items) shown
        ∙ ap (pins_of (without_live (shows s.session) n).live) pins
        ∙ pins-dropped (shows s.session) s.pins.items name n (number-named name s.pins.items n is) old

    pub live-removed : AreLive (shows z.session).live z.pins.items
    live-removed =
        subst (λ (v : SessionView). AreLive v.live z.pins.items) (sym shown)
        (subst (AreLive (without_live (shows s.session) n).live) (sym pins) (live-dropped (shows s.session) s.pins.items name n (number-named name s.pins.items n is) old))

  pub named-is : (s : CodeState P) (name : List ℕ) (o : Option ℕ) → number_named s.pins.items name ≡ o → AreLive (shows s.session).live s.pins.items → pin_named (pins_of (shows s.session).live s.pins.items) name ≡ found (shows s.session).live o
  named-is s name o is old = named-found (shows s.session).live name s.pins.items old.live_all ∙ ap (found (shows s.session).live) is

  -- the pin that a name is found under is live
  pub named-live : (s : CodeState P) (name : List ℕ) (n : ℕ) → number_named s.pins.items name ≡ Some n → AreLive (shows s.session).live s.pins.items → is_some ((shows s.session).live n) ≡ true
  named-live s name n is old = let h = number-named name s.pins.items n is in ap (λ (k : ℕ). is_some ((shows s.session).live k)) (sym h.number) ∙ old.live_all h.pin h.among

  -- ---- turns of a pin and of a drop

  used : (s : State) (name : List ℕ) (o : Option Seen) → is_some o ≡ true → pinned s name o ≡ unchanged s PinUsed
  used s name None h = absurd (true≢false (sym h))
  used s name (Some r) h = refl

  room : (s : State) (name : List ℕ) (b : Bool) → nat_lt (length s.pins) max_pins ≡ b → pinned s name None ≡ cond b (with_pin s name) (unchanged s PinsFull)
  room s name b is = ap (λ (t : Bool). cond t (with_pin s name) (unchanged s PinsFull)) is

  some-there : (o : Option ℕ) (s : CodeState P) (name : List ℕ) → number_named s.pins.items name ≡ o → is_some o ≡ true → AreLive (shows s.session).live s.pins.items → is_some (found (shows s.session).live o) ≡ true
  some-there None s name is h old = absurd (true≢false (sym h))
  some-there (Some n) s name is h old = named-live s name n is old

  pub turn-used : (s : CodeState P) (name : List ℕ) (o : Option ℕ) → number_named s.pins.items name ≡ o → is_some o ≡ true → AreLive (shows s.session).live s.pins.items →
      pinned (state_by shows s) name (pin_named (pins_of (shows s.session).live s.pins.items) name) ≡ unchanged (state_by shows s) PinUsed
  turn-used s name o is h old =
      used (state_by shows s) name (pin_named (pins_of (shows s.session).live s.pins.items) name) (ap is_some (named-is s name o is old) ∙ some-there o s name is h old)

  pub none-there : (o : Option ℕ) → is_some o ≡ false → o ≡ None
  none-there None h = refl
  none-there (Some n) h = absurd (true≢false h)

  module _ (s : CodeState P) (name : List ℕ) (is : number_named s.pins.items name ≡ None) (old : AreLive (shows s.session).live s.pins.items) where
    free-turn : (b : Bool) → nat_lt (length (pins_of (shows s.session).live s.pins.items)) max_pins ≡ b →
        pinned (state_by shows s) name (pin_named (pins_of (shows s.session).live s.pins.items) name) ≡ cond b (with_pin (state_by shows s) name) (unchanged (state_by shows s) PinsFull)
    free-turn b h = ap (pinned (state_by shows s) name) (named-is s name None is old) ∙ room (state_by shows s) name b h

    pub turn-full : max_pins ≤ length s.pins.items → pinned (state_by shows s) name (pin_named (pins_of (shows s.session).live s.pins.items) name) ≡ unchanged (state_by shows s) PinsFull
    turn-full h = free-turn false (le-ltb _ _ (subst (λ (n : ℕ). max_pins ≤ n) (sym (pins-length (shows s.session).live s.pins.items old.live_all)) h))

    pub turn-free : length s.pins.items < max_pins → pinned (state_by shows s) name (pin_named (pins_of (shows s.session).live s.pins.items) name) ≡ with_pin (state_by shows s) name
    turn-free h = free-turn true (lt-ltb _ _ (subst (λ (n : ℕ). n < max_pins) (sym (pins-length (shows s.session).live s.pins.items old.live_all)) h))

    pub turn-none : dropped (state_by shows s) name (pin_named (pins_of (shows s.session).live s.pins.items) name) ≡ unchanged (state_by shows s) NoPin
    turn-none = ap (dropped (state_by shows s) name) (named-is s name None is old)

  gone-turn : (s : State) (name : List ℕ) (o : Option Seen) → is_some o ≡ true → dropped s name o ≡ record { state = with_pins s (without_pin name s.pins); reply = Said }
  gone-turn s name None h = absurd (true≢false (sym h))
  gone-turn s name (Some r) h = refl

  pub turn-removed : (s z : CodeState P) (name : List ℕ) (n : ℕ) → number_named s.pins.items name ≡ Some n → z.pins.items ≡ filter (λ (p : Pin). not (bytes_eq p.name name)) s.pins.items →
      shows z.session ≡ without_live (shows s.session) n → AreLive (shows s.session).live s.pins.items → z.bound ≡ s.bound → z.names ≡ s.names →
      dropped (state_by shows s) name (pin_named (pins_of (shows s.session).live s.pins.items) name) ≡ record { state = state_by shows z; reply = Said }
  turn-removed s z name n is pins shown old bound names =
      gone-turn (state_by shows s) name (pin_named (pins_of (shows s.session).live s.pins.items) name) (ap is_some (named-is s name (Some n) is old) ∙ named-live s name n is old)
      ∙ sym (λ i. record {
        state = record { editor = (shown i).editor; pins = pins-removed s z name n is pins shown old i; bound = bound i; names = names i };
        reply = Said;
      })

  -- a question at a name is one at the number that it is found under
  pub ask-by : (s : CodeState P) (o : Option (List ℕ)) (name : List ℕ) (at : EpWords) (k : Option ℕ) → o ≡ Some name → number_named s.pins.items name ≡ k → AreLive (shows s.session).live s.pins.items →
      ask (state_by shows s) o at ≡ ask_at (state_by shows s) at (found (shows s.session).live k)
  ask-by s o name at k pin is old = ap (λ (x : Option (List ℕ)). ask (state_by shows s) x at) pin ∙ ap (ask_at (state_by shows s) at) (named-is s name k is old)

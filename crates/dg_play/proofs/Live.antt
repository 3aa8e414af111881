-- The pins of a state stay live.
use Rattle.std.proofs.Common.{◌≡◌, ℕ, suc, ◌⊎◌, Bool, true, false, not, bytes_eq, cond, List, [], ◌∷◌, ◌++◌, Option, Some, None, filter, is_some, length, refl, sym, ap, ◌∙◌, subst, inl, inr, eq-eqb, ne_eqb, true≢false}
use Rattle.std.specs.List.{Contains, cons_option}
use Rattle.std.specs.Option.{option_map}
use Rattle.std.proofs.lemmas.List.Elements.{Contains-append_left, Contains-push, Contains-push_cases, filter_map-append}
use Rattle.std.proofs.lemmas.Bool.{cases_eq}
use Rattle.std.proofs.lemmas.Slice.Eq.{bytes_eq-Decides}
use Rattle.dg_line.specs.Revisions.{Seen}
use Rattle.dg_laws.proofs.Members.{Contains-none, Contains-cases, Contains-head, Contains-tail}
use Rattle.dg_play.specs.declared.pins.Pin.{Pin}
use Rattle.dg_play.specs.Pins.{Pinned, pin_named, without_pin}
use Rattle.dg_play.specs.Seen.{number_named, pin_of, pinned_at, pins_of}
use Rattle.dg_play.specs.Sessions.{SessionView, live_with, live_without}
use Rattle.dg_play.specs.States.{AreLive, HasNumber}

none-some : {A X : Type 0} (a : A) → ◌≡◌ {A = Option A} None (Some a) → X
none-some a h = absurd cc

none-is_some : {X : Type 0} → false ≡ true → X
none-is_some h = absurd (true≢false (sym h))

-- ---- a look-up by name

-- the revision of a number that was found
abbrev pub found : (ℕ → Option Seen) → Option ℕ → Option Seen
found live None = None
found live (Some n) = live n

-- some pin with a name has a number
pub record IsNamed (ps : List Pin) (name : List ℕ) (n : ℕ) : Type 0 where
  pub pin : Pin
  pub among : Contains ps pin
  pub is : pin.name ≡ name
  pub number : pin.number ≡ n

module _ (live : ℕ → Option Seen) (name : List ℕ) where
  named-step : (p : Pin) (o : Option Seen) (b : Bool) (rest : List Pinned) (more : Option ℕ) → live p.number ≡ o → is_some o ≡ true → pin_named rest name ≡ found live more → bytes_eq p.name name ≡ b →
      pin_named (cons_option (option_map (pinned_at p.name) o) rest) name ≡ found live (cond b (Some p.number) more)
  named-step p None b rest more is there old test = none-is_some there
  named-step p (Some r) true rest more is there old test = ap (λ (t : Bool). cond t (Some r) (pin_named rest name)) test ∙ sym is
  named-step p (Some r) false rest more is there old test = ap (λ (t : Bool). cond t (Some r) (pin_named rest name)) test ∙ old

  pub named-found : (ps : List Pin) → ((p : Pin) → Contains ps p → is_some (live p.number) ≡ true) → pin_named (pins_of live ps) name ≡ found live (number_named ps name)
  named-found [] all = refl
  named-found (p ∷ ps) all =
      let old = named-found ps (λ q h. all q (Contains-tail p ps q h)) in
      named-step p (live p.number) (bytes_eq p.name name) (pins_of live ps) (number_named ps name) refl (all p (Contains-head p ps)) old refl

module _ (name : List ℕ) where
  number-step : (p : Pin) (ps : List Pin) (n : ℕ) (b : Bool) → bytes_eq p.name name ≡ b → (number_named ps name ≡ Some n → IsNamed ps name n) → cond b (Some p.number) (number_named ps name) ≡ Some n →
      IsNamed (p ∷ ps) name n
  number-step p ps n true test old is = record { pin = p; among = Contains-head p ps; is = (bytes_eq-Decides p.name name).0 test; number = some-is is }
    where
      some-is : {a b : ℕ} → ◌≡◌ {A = Option ℕ} (Some a) (Some b) → a ≡ b
      some-is e = cc
  number-step p ps n false test old is = let h = old is in record { pin = h.pin; among = Contains-tail p ps h.pin h.among; is = h.is; number = h.number }

  pub number-named : (ps : List Pin) (n : ℕ) → number_named ps name ≡ Some n → IsNamed ps name n
  number-named [] n is = none-some n is
  number-named (p ∷ ps) n is = number-step p ps n (bytes_eq p.name name) refl (number-named ps n) is

  free-step : (p : Pin) (b : Bool) (more : Option ℕ) → bytes_eq p.name name ≡ b → cond b (Some p.number) more ≡ None → (p.name ≡ name → ⊥) × (more ≡ None)
  free-step p true more test free = none-some p.number (sym free)
  free-step p false more test free = (λ e. true≢false (sym ((bytes_eq-Decides p.name name).1 e) ∙ test), free)

  -- no pin has a name that isn't found
  pub name-free : (ps : List Pin) → number_named ps name ≡ None → (p : Pin) → Contains ps p → p.name ≡ name → ⊥
  name-free [] free p h e = Contains-none p h
  name-free (x ∷ xs) free p h e =
      let parts = free-step x (bytes_eq x.name name) (number_named xs name) refl free in
      elim (Contains-cases x xs p h) [
        | inl same ↦ parts.0 (ap (λ (q : Pin). q.name) same ∙ e)
        | inr more ↦ name-free xs parts.1 p more e
      ]

-- ---- as many are told as are live

long-step : (live : ℕ → Option Seen) (p : Pin) (o : Option Seen) (rest : List Pinned) (n : ℕ) → is_some o ≡ true → length rest ≡ n → length (cons_option (option_map (pinned_at p.name) o) rest) ≡ suc n
long-step live p None rest n there old = none-is_some there
long-step live p (Some r) rest n there old = ap suc old

pub pins-length : (live : ℕ → Option Seen) (ps : List Pin) → ((p : Pin) → Contains ps p → is_some (live p.number) ≡ true) → length (pins_of live ps) ≡ length ps
pins-length live [] all = refl
pins-length live (p ∷ ps) all = long-step live p (live p.number) (pins_of live ps) (length ps) (all p (Contains-head p ps)) (pins-length live ps (λ q h. all q (Contains-tail p ps q h)))

-- ---- one pin more

pub live_with-at : (v : SessionView) (n m : ℕ) → m ≡ n → live_with v n m ≡ Some v.editor.now
live_with-at v n m is = ap (λ (b : Bool). cond b (Some v.editor.now) (v.live m)) (eq-eqb m n is)

pub live_with-other : (v : SessionView) (n m : ℕ) → (m ≡ n → ⊥) → live_with v n m ≡ v.live m
live_with-other v n m other = ap (λ (b : Bool). cond b (Some v.editor.now) (v.live m)) (ne_eqb m n other)

pub live_without-at : (v : SessionView) (n m : ℕ) → m ≡ n → live_without v n m ≡ None
live_without-at v n m is = ap (λ (b : Bool). cond b None (v.live m)) (eq-eqb m n is)

pub live_without-other : (v : SessionView) (n m : ℕ) → (m ≡ n → ⊥) → live_without v n m ≡ v.live m
live_without-other v n m other = ap (λ (b : Bool). cond b None (v.live m)) (ne_eqb m n other)

pub pins-same : (live now : ℕ → Option Seen) (ps : List Pin) → ((p : Pin) → Contains ps p → now p.number ≡ live p.number) → pins_of now ps ≡ pins_of live ps
pins-same live now [] same = refl
pins-same live now (p ∷ ps) same =
    ap (λ (o : Option Seen). cons_option (option_map (pinned_at p.name) o) (pins_of now ps)) (same p (Contains-head p ps))
    ∙ ap (cons_option (pin_of live p)) (pins-same live now ps (λ q h. same q (Contains-tail p ps q h)))

not-live : (live : ℕ → Option Seen) (m n : ℕ) → is_some (live m) ≡ true → live n ≡ None → m ≡ n → ⊥
not-live live m n there free is = none-is_some (sym (ap is_some (ap live is ∙ free)) ∙ there)

module _ (v : SessionView) (ps : List Pin) (new : Pin) (free : v.live new.number ≡ None) (old : AreLive v.live ps) where
  apart : (p : Pin) → Contains ps p → p.number ≡ new.number → ⊥
  apart p h = not-live v.live p.number new.number (old.live_all p h) free

  pub pins-pinned : pins_of (live_with v new.number) (ps ++ new ∷ []) ≡ pins_of v.live ps ++ record { name = new.name; revision = v.editor.now } ∷ []
  pins-pinned =
      filter_map-append (pin_of (live_with v new.number)) ps (new ∷ [])
      ∙ ap (λ (qs : List Pinned). qs ++ pins_of (live_with v new.number) (new ∷ [])) (pins-same v.live (live_with v new.number) ps (λ p h. live_with-other v new.number p.number (apart p h)))
      ∙ ap (λ (o : Option Seen). pins_of v.live ps ++ cons_option (option_map (pinned_at new.name) o) []) (live_with-at v new.number new.number refl)

  among : (p : Pin) → Contains (ps ++ new ∷ []) p → Contains ps p ⊎ (new ≡ p)
  among p h = Contains-push_cases ps new p h

  new-number : HasNumber (ps ++ new ∷ []) new.number
  new-number = record { pin = new; among = Contains-push ps new; number = refl }

  old-number : (n : ℕ) → HasNumber ps n → HasNumber (ps ++ new ∷ []) n
  old-number n h = record { pin = h.pin; among = Contains-append_left ps (new ∷ []) h.pin h.among; number = h.number }

  pub live-pinned : number_named ps new.name ≡ None → AreLive (live_with v new.number) (ps ++ new ∷ [])
  live-pinned unnamed = record {
    live_all = λ p h. elim (among p h) [
      | inl before ↦ ap is_some (live_with-other v new.number p.number (apart p before)) ∙ old.live_all p before
      | inr same ↦ ap is_some (live_with-at v new.number p.number (sym (ap (λ (q : Pin). q.number) same)))
    ];
    only = λ n h. elim (cases_eq n new.number) [
      | inl same ↦ subst (HasNumber (ps ++ new ∷ [])) (sym same) new-number
      | inr other ↦ old-number n (old.only n (sym (ap is_some (live_with-other v new.number n other)) ∙ h))
    ];
    names = λ p q h k e. elim (among p h) [
      | inl before ↦ elim (among q k) [
        | inl there ↦ old.names p q before there e
        | inr same ↦ absurd (apart p before (e ∙ sym (ap (λ (x : Pin). x.number) same)))
      ]
      | inr same ↦ elim (among q k) [
        | inl there ↦ absurd (apart q there (sym (ap (λ (x : Pin). x.number) same ∙ e)))
        | inr too ↦ sym (ap (λ (x : Pin). x.name) same) ∙ ap (λ (x : Pin). x.name) too
      ]
    ];
    numbers = λ p q h k e. elim (among p h) [
      | inl before ↦ elim (among q k) [
        | inl there ↦ old.numbers p q before there e
        | inr same ↦ absurd (name-free new.name ps unnamed p before (e ∙ sym (ap (λ (x : Pin). x.name) same)))
      ]
      | inr same ↦ elim (among q k) [
        | inl there ↦ absurd (name-free new.name ps unnamed q there (sym (ap (λ (x : Pin). x.name) same ∙ e)))
        | inr too ↦ sym (ap (λ (x : Pin). x.number) same) ∙ ap (λ (x : Pin). x.number) too
      ]
    ];
  }

-- ---- one pin fewer

kept-case : {X : Type 0} (test : X → Bool) (b : Bool) (x : X) (rest xs : List X) (p : X) → test x ≡ b → ((q : X) → Contains rest q → Contains xs q × (test q ≡ true)) → Contains (cond b (x ∷ rest) rest) p →
    Contains (x ∷ xs) p × (test p ≡ true)
kept-case test true x rest xs p is old h = elim (Contains-cases x rest p h) [
  | inl same ↦ subst (λ q. Contains (x ∷ xs) q × (test q ≡ true)) same (Contains-head x xs, is)
  | inr more ↦ let o = old p more in (Contains-tail x xs p o.0, o.1)
]
kept-case test false x rest xs p is old h = let o = old p h in (Contains-tail x xs p o.0, o.1)

-- what a test keeps was there, and passes
Contains-filter : {X : Type 0} (test : X → Bool) (xs : List X) (p : X) → Contains (filter test xs) p → Contains xs p × (test p ≡ true)
Contains-filter test [] p h = Contains-none p h
Contains-filter test (x ∷ xs) p h = kept-case test (test x) x (filter test xs) xs p refl (λ q k. Contains-filter test xs q k) h

filter-case : {X : Type 0} (test : X → Bool) (b : Bool) (x : X) (rest : List X) → test x ≡ b → test x ≡ true → Contains (cond b (x ∷ rest) rest) x
filter-case test true x rest is passes = Contains-head x rest
filter-case test false x rest is passes = absurd (true≢false (sym passes ∙ is))

filter-more : {X : Type 0} (b : Bool) (x : X) (rest : List X) (p : X) → Contains rest p → Contains (cond b (x ∷ rest) rest) p
filter-more true x rest p h = Contains-tail x rest p h
filter-more false x rest p h = h

-- what passes a test is kept
passes-filter : {X : Type 0} (test : X → Bool) (xs : List X) (p : X) → Contains xs p → test p ≡ true → Contains (filter test xs) p
passes-filter test [] p h passes = Contains-none p h
passes-filter {X} test (x ∷ xs) p h passes = elim (Contains-cases x xs p h) [
  | inl same ↦ subst (λ (q : X). Contains (filter test (x ∷ xs)) q) same (filter-case test (test x) x (filter test xs) refl (ap test same ∙ passes))
  | inr more ↦ filter-more (test x) x (filter test xs) p (passes-filter test xs p more passes)
]

module _ (live now : ℕ → Option Seen) (name : List ℕ) where
  abbrev keeps : Pin → Bool
  keeps p = not (bytes_eq p.name name)

  without-step : (p : Pin) (o : Option Seen) (b : Bool) (ps : List Pin) (qs : List Pinned) → keeps p ≡ b → (b ≡ true → now p.number ≡ o) → pins_of now ps ≡ without_pin name qs →
      pins_of now (cond b (p ∷ ps) ps) ≡ without_pin name (cons_option (option_map (pinned_at p.name) o) qs)
  without-step p None true ps qs test same old = ap (λ (o : Option Seen). cons_option (option_map (pinned_at p.name) o) (pins_of now ps)) (same refl) ∙ old
  without-step p (Some r) true ps qs test same old =
      ap (λ (o : Option Seen). cons_option (option_map (pinned_at p.name) o) (pins_of now ps)) (same refl)
      ∙ ap (λ (l : List Pinned). pinned_at p.name r ∷ l) old
      ∙ sym (ap (λ (b : Bool). cond b (pinned_at p.name r ∷ without_pin name qs) (without_pin name qs)) test)
  without-step p None false ps qs test same old = old
  without-step p (Some r) false ps qs test same old = old ∙ sym (ap (λ (b : Bool). cond b (pinned_at p.name r ∷ without_pin name qs) (without_pin name qs)) test)

  pub pins-without : (ps : List Pin) → ((p : Pin) → Contains ps p → keeps p ≡ true → now p.number ≡ live p.number) → pins_of now (filter keeps ps) ≡ without_pin name (pins_of live ps)
  pins-without [] same = refl
  pins-without (p ∷ ps) same =
      without-step p (live p.number) (keeps p) (filter keeps ps) (pins_of live ps) refl (same p (Contains-head p ps)) (pins-without ps (λ q h. same q (Contains-tail p ps q h)))

module _ (v : SessionView) (ps : List Pin) (name : List ℕ) (n : ℕ) (gone : IsNamed ps name n) (old : AreLive v.live ps) where
  other-name : (p : Pin) → Contains ps p → not (bytes_eq p.name name) ≡ true → p.number ≡ n → ⊥
  other-name p h passes e =
      let same : bytes_eq p.name name ≡ true = (bytes_eq-Decides p.name name).1 (old.names p gone.pin h gone.among (e ∙ sym gone.number) ∙ gone.is) in
      true≢false (sym passes ∙ ap not same)

  pub pins-dropped : pins_of (live_without v n) (filter (λ p. not (bytes_eq p.name name)) ps) ≡ without_pin name (pins_of v.live ps)
  pins-dropped = pins-without v.live (live_without v n) name ps (λ p h passes. live_without-other v n p.number (other-name p h passes))

  stays : (m : ℕ) (h : HasNumber ps m) → (m ≡ n → ⊥) → HasNumber (filter (λ p. not (bytes_eq p.name name)) ps) m
  stays m h other = by_name (bytes_eq h.pin.name name) refl
    where
      by_name : (b : Bool) → bytes_eq h.pin.name name ≡ b → HasNumber (filter (λ p. not (bytes_eq p.name name)) ps) m
      by_name true is = absurd (other (sym h.number ∙ old.numbers h.pin gone.pin h.among gone.among ((bytes_eq-Decides h.pin.name name).0 is ∙ sym gone.is) ∙ gone.number))
      by_name false is = record { pin = h.pin; among = passes-filter (λ (q : Pin). not (bytes_eq q.name name)) ps h.pin h.among (ap not is); number = h.number }

  kept : (p : Pin) → Contains (filter (λ p. not (bytes_eq p.name name)) ps) p → Contains ps p × (not (bytes_eq p.name name) ≡ true)
  kept p h = Contains-filter (λ (q : Pin). not (bytes_eq q.name name)) ps p h

  pub live-dropped : AreLive (live_without v n) (filter (λ p. not (bytes_eq p.name name)) ps)
  live-dropped = record {
    live_all = λ p h. let k = kept p h in ap is_some (live_without-other v n p.number (other-name p k.0 k.1)) ∙ old.live_all p k.0;
    only = λ m h. elim (cases_eq m n) [
      | inl same ↦ none-is_some (sym (ap is_some (live_without-at v n m same)) ∙ h)
      | inr other ↦ stays m (old.only m (sym (ap is_some (live_without-other v n m other)) ∙ h)) other
    ];
    names = λ p q h k. old.names p q (kept p h).0 (kept q k).0;
    numbers = λ p q h k. old.numbers p q (kept p h).0 (kept q k).0;
  }

-- What each event leaves is a world again.
use Rattle.std.proofs.Common.{◌≡◌, ℕ, zero, suc, ◌+◌, ◌⊎◌, false, cond, List, [], ◌∷◌, ◌++◌, Option, Some, None, filter, length, set, slice_get, get_or, Contains, refl, sym, ap, ◌∙◌, subst, inl, inr, arith}
use Rattle.std.proofs.lemmas.List.{length-append, length-set, get_or-set_same, get_or-set_other}
use Rattle.std.proofs.lemmas.List.Elements.{Contains-push_cases, Contains-append_left, filter-append}
use Rattle.std.proofs.lemmas.Bool.{cases_eq}
use Rattle.std.proofs.lemmas.Option.{slice_get_within, get_or_from_slice_get}
use Rattle.dg_base.specs.declared.ids.Endpoint.{Endpoint}
use Rattle.dg_base.specs.Tables.{Tables}
use Rattle.dg_laws.proofs.Members.{Contains-none, Contains-cases}
use Rattle.dg_line.specs.Revisions.{Seen}
use Rattle.dg_line.specs.Links.{IsLink, Linked}
use Rattle.dg_line.specs.Tickets.{Pin}
use Rattle.dg_offer.specs.Offers.{Offered}
use Rattle.dg_desk.specs.declared.event.What.TheVariants as what
use Rattle.dg_desk.specs.declared.event.Followed.{Followed}
use Rattle.dg_desk.specs.declared.event.Followed.TheVariants as followed
use Rattle.dg_desk.specs.declared.event.Published.{Published}
use Rattle.dg_desk.specs.Machine.{Act, Event, State, at_start, after, after_follow}
use Rattle.dg_desk.specs.Coherent.{IsRight}
use Rattle.dg_desk.specs.Desks.{Desked, state_of, recorded, event_of, is_step}
use Rattle.dg_desk.proofs.Playing.{after_all-push}
use Rattle.dg_editor.specs.Seeing.{Editing, IsUnchanged}
use Rattle.dg_world.specs.Worlds.{Worlded, pin_at, if_live}
use Rattle.dg_world.specs.Steps.{IsMet}
use Rattle.dg_world.specs.Laws.{HasSources, IsWorld}
use Rattle.dg_world.proofs.Sources.{sources-later, sourced-push}

some_is : {A : Type 0} (x y : A) → Some x ≡ Some y → x ≡ y
some_is x y e = cc

not_some : {A P : Type 0} (x : A) → ◌≡◌ {A = Option A} None (Some x) → P
not_some x e = absurd cc

-- what is there after one was taken out was there before
pub Contains-dropped : {A : Type 0} (ps : List (Option A)) (n : ℕ) (p : A) → Contains (set ps n None) (Some p) → Contains ps (Some p)
Contains-dropped {A} ps n p h =
    let long = length-set ps n None in
    let lt = h.1 in
    elim (cases_eq h.0 n) [
      | inl same ↦ not_some p (sym (get_or-set_same ps n None (Some p) (let lt2 = lt in omega (arith, long, lt2, same))) ∙ ap (λ i. get_or (set ps n None) i (Some p)) (sym same) ∙ h.2)
      | inr other ↦ (h.0, omega (arith, long, lt), sym (get_or-set_other ps n h.0 None (Some p) other) ∙ h.2)
    ]

-- what is found in a list with one more
pub get-push : {A : Type 0} (xs : List A) (y : A) (n : ℕ) (x : A) → slice_get (xs ++ y ∷ []) n ≡ Some x → (slice_get xs n ≡ Some x) ⊎ ((y ≡ x) × (n ≡ length xs))
get-push [] y zero x h = inr (some_is y x h, refl)
get-push [] y (suc n) x h = not_some x h
get-push (z ∷ zs) y zero x h = inl h
get-push (z ∷ zs) y (suc n) x h = elim (get-push zs y n x h) [
  | inl there ↦ inl there
  | inr last ↦ inr (last.0, ap suc last.1)
]

pub world-is : {N M : Type 0} {t : Tables} {see : Seen → Seen} {of : Pin Seen M → Type 0} {w v : Worlded N M} → IsWorld t see of w → w ≡ v → IsWorld t see of v
world-is {N} {M} {t} {see} {of} {w} {v} h is = subst (IsWorld t see of) is h

live-is : {A : Type 0} (o : Option (Option A)) (p : A) → if_live o ≡ Some p → o ≡ Some (Some p)
live-is None p h = not_some p h
live-is (Some q) p h = ap Some h

-- a pin that is live is one of the pins
pub live-among : {A : Type 0} (ps : List (Option A)) (n : ℕ) (p : A) → pin_at ps n ≡ Some p → Contains ps (Some p)
live-among {A} ps n p h =
    let is = live-is (slice_get ps n) p h in
    (n, slice_get_within ps n (Some p) is, get_or_from_slice_get ps n (Some p) (Some p) is)

asks-push : {M : Type 0} (os : List (Offered Seen M)) (o : Offered Seen M) → ((n : ℕ) (x : Offered Seen M) → slice_get os n ≡ Some x → x.ask ≡ n) → o.ask ≡ length os →
    (n : ℕ) (x : Offered Seen M) → slice_get (os ++ o ∷ []) n ≡ Some x → x.ask ≡ n
asks-push {M} os o old new n x h = elim (get-push os o n x h) [
  | inl there ↦ old n x there
  | inr last ↦ ap (λ (z : Offered Seen M). z.ask) (sym last.0) ∙ new ∙ sym last.1
]

-- a record more is a step more of the machine
pub state-more : {M : Type 0} (see : Seen → Seen) (d : Desked Seen M) (w : Act Seen M) → state_of see (recorded see d w) ≡ after see d.capacity (state_of see d) w
state-more {M} see d w = after_all-push see d.capacity (at_start d.opened) d.history (event_of d w)

module _ {M : Type 0} where
  now-moved : (s : State Seen M) (to : Pin Seen M) (dirty : List Endpoint) (a : Followed) → IsMet a → (after_follow s to dirty a).now ≡ to
  now-moved s to dirty followed.Kept met = refl
  now-moved s to dirty followed.Cleared met = refl
  now-moved s to dirty (followed.Restarted h w) met = absurd met

  list-moved : (s : State Seen M) (to : Pin Seen M) (dirty : List Endpoint) (a : Followed) → IsMet a → (after_follow s to dirty a).list ≡ s.list ++ to ∷ []
  list-moved s to dirty followed.Kept met = refl
  list-moved s to dirty followed.Cleared met = refl
  list-moved s to dirty (followed.Restarted h w) met = absurd met

  not_publish : (link : Linked Seen M) (a : Followed) (o : Offered Seen M) (b : Published) → ◌≡◌ {A = Act Seen M} (what.Follow link a) (what.Publish o b) → ⊥
  not_publish link a o b is = cc

module _ {N M : Type 0} (t : Tables) (see : Seen → Seen) where
  -- ---- at its opening

  pub opened : (of : Pin Seen M → Type 0) (e : Editing N M) (c pass : ℕ) → of e.here →
      IsWorld t see of (record { editor = e; desk = record { opened = e.here; capacity = c; entries = []; history = []; pass = pass }; pins = []; offers = []; made = 0 })
  opened of e c pass here = record {
    now = refl;
    number = let n = (see e.here.revision).number in omega arith;
    line = λ p h. elim (Contains-cases e.here [] p h) [
      | inl same ↦ subst of same here
      | inr none ↦ Contains-none p none
    ];
    pins = λ p h. Contains-none (Some p) h;
    offers = λ o h. Contains-none o h;
    asks = λ n o h. not_some o h;
    right = λ o h. Contains-none o h;
    sources = λ o h. Contains-none o h;
    published = λ before later e o a is. none before later e is;
  }
    where
      none : {P : Type 0} (before later : List (Event Seen M)) (x : Event Seen M) → [] ≡ before ++ x ∷ later → P
      none [] later x is = absurd cc
      none (b ∷ bs) later x is = absurd cc

  -- ---- after an edit

  pub moved : (of of' : Pin Seen M → Type 0) (w : Worlded N M) (e : Editing N M) (link : Linked Seen M) (a : Followed) → IsWorld t see of w → ((p : Pin Seen M) → of p → of' p) → of' e.here →
      IsLink t (see link.from.revision) (see link.to.revision) link.dirty → link.from ≡ w.editor.here → link.to ≡ e.here → IsMet a →
      IsWorld t see of' (record { editor = e; desk = recorded see w.desk (what.Follow link a); pins = w.pins; offers = w.offers; made = w.made })
  moved of of' w e link a world stays here right from to met =
      let d = w.desk in
      let act = what.Follow link a in
      let h = event_of d act in
      let state = state-more see d act in
      let now = ap (λ (s : State Seen M). s.now) state ∙ now-moved (state_of see d) link.to link.dirty a met in
      let list = ap (λ (s : State Seen M). s.list) state ∙ list-moved (state_of see d) link.to link.dirty a met in
      let still : (p : Pin Seen M) → Contains (state_of see d).list p → Contains (state_of see (recorded see d act)).list p =
      λ p c. subst (λ (ps : List (Pin Seen M)). Contains ps p) (sym list) (Contains-append_left (state_of see d).list (link.to ∷ []) p c) in
      record {
        now = now ∙ to;
        number =
            let old = world.number in
            let steps : length (filter (λ x. is_step x.what) (d.history ++ h ∷ [])) ≡ length (filter (λ x. is_step x.what) d.history) + 1 =
            ap length (filter-append (λ x. is_step x.what) d.history (h ∷ [])) ∙ length-append (filter (λ x. is_step x.what) d.history) (h ∷ []) in
            let next = right.number in
            let first = ap (λ (p : Pin Seen M). (see p.revision).number) from in
            let last = ap (λ (p : Pin Seen M). (see p.revision).number) to in
            omega (arith, old, steps, next, first, last);
        line = λ p c. elim (Contains-push_cases (state_of see d).list link.to p (subst (λ (ps : List (Pin Seen M)). Contains ps p) list c)) [
          | inl before ↦ stays p (world.line p before)
          | inr same ↦ subst of' (sym to ∙ same) here
        ];
        pins = λ p c. still p (world.pins p c);
        offers = λ o c. still o.ticket (world.offers o c);
        asks = world.asks;
        right = world.right;
        sources = λ o c. sources-later see d.history h o (world.sources o c);
        published = sourced-push see d.history h world.published (λ o b is. absurd (not_publish link a o b is));
      }

  -- ---- after a refusal, which may leave a revision more in the line

  pub refused : (of of' : Pin Seen M → Type 0) (w : Worlded N M) (e : Editing N M) → IsWorld t see of w → ((p : Pin Seen M) → of p → of' p) → IsUnchanged w.editor e →
      IsWorld t see of' (record { editor = e; desk = w.desk; pins = w.pins; offers = w.offers; made = w.made })
  refused of of' w e world stays same = record {
    now = world.now ∙ sym same.here;
    number = world.number ∙ ap (λ (p : Pin Seen M). (see p.revision).number) (sym same.here);
    line = λ p c. stays p (world.line p c);
    pins = world.pins;
    offers = world.offers;
    asks = world.asks;
    right = world.right;
    sources = world.sources;
    published = world.published;
  }

  -- ---- pins

  pub pinned : (of : Pin Seen M → Type 0) (w : Worlded N M) (made : ℕ) → IsWorld t see of w → Contains (state_of see w.desk).list w.editor.here →
      IsWorld t see of (record { editor = w.editor; desk = w.desk; pins = w.pins ++ Some w.editor.here ∷ []; offers = w.offers; made = made })
  pinned of w made world here = record {
    now = world.now;
    number = world.number;
    line = world.line;
    pins = λ p c. elim (Contains-push_cases w.pins (Some w.editor.here) (Some p) c) [
      | inl old ↦ world.pins p old
      | inr same ↦ subst (Contains (state_of see w.desk).list) (some_is w.editor.here p same) here
    ];
    offers = world.offers;
    asks = world.asks;
    right = world.right;
    sources = world.sources;
    published = world.published;
  }

  pub dropped : (of : Pin Seen M → Type 0) (w : Worlded N M) (n : ℕ) → IsWorld t see of w →
      IsWorld t see of (record { editor = w.editor; desk = w.desk; pins = set w.pins n None; offers = w.offers; made = w.made })
  dropped of w n world = record {
    now = world.now;
    number = world.number;
    line = world.line;
    pins = λ p c. world.pins p (Contains-dropped w.pins n p c);
    offers = world.offers;
    asks = world.asks;
    right = world.right;
    sources = world.sources;
    published = world.published;
  }

  -- ---- an offer more

  pub answered : (of : Pin Seen M → Type 0) (w : Worlded N M) (o : Offered Seen M) (made : ℕ) → IsWorld t see of w → o.ask ≡ length w.offers → Contains (state_of see w.desk).list o.ticket → IsRight see t o →
      HasSources see w.desk.history o → IsWorld t see of (record { editor = w.editor; desk = w.desk; pins = w.pins; offers = w.offers ++ o ∷ []; made = made })
  answered of w o made world ask there right sources = record {
    now = world.now;
    number = world.number;
    line = world.line;
    pins = world.pins;
    offers = λ x c. elim (Contains-push_cases w.offers o x c) [
      | inl old ↦ world.offers x old
      | inr same ↦ subst (λ (z : Offered Seen M). Contains (state_of see w.desk).list z.ticket) same there
    ];
    asks = asks-push w.offers o world.asks ask;
    right = λ x c. elim (Contains-push_cases w.offers o x c) [
      | inl old ↦ world.right x old
      | inr same ↦ subst (IsRight see t) same right
    ];
    sources = λ x c. elim (Contains-push_cases w.offers o x c) [
      | inl old ↦ world.sources x old
      | inr same ↦ subst (HasSources see w.desk.history) same sources
    ];
    published = world.published;
  }

  -- ---- a record that neither follows nor settles

  pub acted : (of : Pin Seen M → Type 0) (w : Worlded N M) (act : Act Seen M) → IsWorld t see of w → (after see w.desk.capacity (state_of see w.desk) act).now ≡ (state_of see w.desk).now →
      (after see w.desk.capacity (state_of see w.desk) act).list ≡ (state_of see w.desk).list → is_step act ≡ false → ((o : Offered Seen M) (a : Published) → act ≡ what.Publish o a → HasSources see w.desk.history o) →
      IsWorld t see of (record { editor = w.editor; desk = recorded see w.desk act; pins = w.pins; offers = w.offers; made = w.made })
  acted of w act world same_now same_list quiet new =
      let d = w.desk in
      let h = event_of d act in
      let state = state-more see d act in
      let now = ap (λ (s : State Seen M). s.now) state ∙ same_now in
      let list = ap (λ (s : State Seen M). s.list) state ∙ same_list in
      let still : (p : Pin Seen M) → Contains (state_of see d).list p → Contains (state_of see (recorded see d act)).list p =
      λ p c. subst (λ (ps : List (Pin Seen M)). Contains ps p) (sym list) c in
      record {
        now = now ∙ world.now;
        number =
            let old = world.number in
            let one : length (filter (λ (x : Event Seen M). is_step x.what) (h ∷ [])) ≡ 0 = ap (λ b. length (cond b (h ∷ []) [])) quiet in
            let steps : length (filter (λ x. is_step x.what) (d.history ++ h ∷ [])) ≡ length (filter (λ x. is_step x.what) d.history) + length (filter (λ (x : Event Seen M). is_step x.what) (h ∷ [])) =
            ap length (filter-append (λ x. is_step x.what) d.history (h ∷ [])) ∙ length-append (filter (λ x. is_step x.what) d.history) (filter (λ x. is_step x.what) (h ∷ [])) in
            omega (arith, old, one, steps);
        line = λ p c. world.line p (subst (λ (ps : List (Pin Seen M)). Contains ps p) list c);
        pins = λ p c. still p (world.pins p c);
        offers = λ o c. still o.ticket (world.offers o c);
        asks = world.asks;
        right = world.right;
        sources = λ o c. sources-later see d.history h o (world.sources o c);
        published = sourced-push see d.history h world.published new;
      }

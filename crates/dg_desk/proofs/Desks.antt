-- Desks: at their opening, and with one record more.
use Rattle.std.proofs.Common.{◌≡◌, ℕ, zero, suc, ◌-◌, ◌<◌, ◌==◌, ◌⊎◌, Bool, true, false, cond, List, [], ◌∷◌, ◌++◌, length, filter, take, Contains, refl, sym, ap, ◌∙◌, subst, inl, inr, arith, true≢false, IsTrue, ◌≢◌, min, tests}
use Rattle.std.proofs.lemmas.List.{length-append, take_all}
use Rattle.std.proofs.lemmas.List.Elements.{Contains-push, filter-append}
use Rattle.dg_base.specs.declared.ids.Endpoint.{Endpoint}
use Rattle.dg_base.specs.Tables.{Tables}
use Rattle.std.proofs.Common.{eq-eqb}
use Rattle.dg_laws.proofs.Members.{Contains-none, list_any_from}
use Rattle.dg_cache.specs.declared.entry.Entry.{Entry}
use Rattle.dg_cache.specs.declared.cache.Evicted.{Evicted}
use Rattle.dg_cache.specs.declared.cache.EvictEnd.{EvictEnd}
use Rattle.dg_cache.specs.declared.cache.EvictEnd.TheVariants as evict_end
use Rattle.dg_cache.specs.Caches.{evicted}
use Rattle.dg_cache.specs.Entries.{in_order, put_all, touched}
use Rattle.dg_line.specs.Revisions.{Seen}
use Rattle.dg_line.specs.Links.{IsLink, Linked}
use Rattle.dg_line.specs.Tickets.{Pin}
use Rattle.dg_offer.specs.Offers.{Offered, AreValues}
use Rattle.dg_desk.specs.declared.event.What.TheVariants as what
use Rattle.dg_desk.specs.declared.event.Followed.{Followed}
use Rattle.dg_desk.specs.declared.event.Followed.TheVariants as followed
use Rattle.dg_desk.specs.declared.event.Published.{Published}
use Rattle.dg_desk.specs.declared.event.PublishEnd.{PublishEnd}
use Rattle.dg_desk.specs.declared.event.PublishEnd.TheVariants as end_of
use Rattle.dg_desk.specs.Machine.{Act, Event, State, at_start, after_follow, after_publish, is_listed, unchanged, holding, after}
use Rattle.dg_desk.specs.Coherent.{IsCoherent, IsRight, AreRight}
use Rattle.dg_desk.specs.Desks.{Desked, state_of, HasAnswer, IsFollowed, IsPublishEnd, recorded, event_of, IsDesk, is_step, spare, IsEvicted, IsEviction, IsEvictionBy, is_refused, is_refused_at}
use Rattle.dg_desk.specs.Acts.{entries_followed, IsFollowedBy, IsListedAs, IsPut}
use Rattle.dg_desk.proofs.Coherence.{right-more, published-later, coherent-holding, coherent-start, coherent-kept, coherent-cleared, coherent-evicted, coherent-published}
use Rattle.dg_base.specs.Value.{value_at}
use Rattle.dg_desk.proofs.Caching.{in_order-from}
use Rattle.dg_desk.proofs.Playing.{after_all-push, play-push}

followed-answer : (b : Bool) (had wanted : ℕ) (a : Followed) → (IsTrue b → had ≡ wanted) → (b ≡ false → had ≢ wanted) → IsFollowedBy b had wanted a → IsFollowed had wanted a
followed-answer b had wanted followed.Kept yes_ no_ by = yes_ by
followed-answer b had wanted followed.Cleared yes_ no_ by = yes_ by
followed-answer b had wanted (followed.Restarted h w) yes_ no_ by = (by.1, by.2, no_ by.0)

-- what the cache's eviction answers, where it isn't refused
pub evicted-answer : (most all gone : ℕ) (end : EvictEnd) → (end ≡ evict_end.All → gone ≡ min most all) → (end ≡ evict_end.NoMemory → gone < min most all) →
    is_refused_at gone end ≡ false → IsEvicted most all gone end
evicted-answer most all gone evict_end.All whole part done = whole refl
evicted-answer most all zero evict_end.NoMemory whole part done = absurd (true≢false done)
evicted-answer most all (suc gone) evict_end.NoMemory whole part done = (omega arith, part refl)

-- a refused one drops nothing
pub refused-same : (gone : ℕ) (end : EvictEnd) (es : List Entry) → true ≡ is_refused_at gone end → evicted gone es ≡ es
refused-same gone evict_end.All es is = absurd (true≢false is)
refused-same gone evict_end.NoMemory es is = let z : gone ≡ 0 = search (tests, is) in ap (λ n. evicted n es) z ∙ take_all (length es - 0) es (omega arith)

put-end : (listed : Bool) (index all kept : ℕ) (a : Published) (end : PublishEnd) → listed ≡ true → IsPut all kept a end → IsPublishEnd listed index all kept a end
put-end listed index all kept a end_of.All there put = (there, put.0, put.1, put.2)
put-end listed index all kept a end_of.NoMemory there put = (there, put.0, put.1, put.2)
put-end listed index all kept a (end_of.Unknown i) there put = absurd put

module _ {A B : Type 0} (see : A → Seen) (t : Tables) where
  opened-none : (p : Pin A B) (c pass : ℕ) → IsDesk see t (record { opened = p; capacity = c; entries = []; history = []; pass = pass })
  opened-none p c pass = record { entries = refl; play = tt; coherent = coherent-start see t p [] (λ e o a h. Contains-none e h) }

  pub desk_opened : (p : Pin A B) (c pass : ℕ) (es : List Entry) (hs : List (Event A B)) → es ≡ [] → hs ≡ [] → IsDesk see t (record { opened = p; capacity = c; entries = es; history = hs; pass = pass })
  desk_opened p c pass es hs no_entries no_records = rw (no_entries, no_records) (opened-none p c pass)

  pub desk-more : (d : Desked A B) (w : Act A B) → IsDesk see t d → HasAnswer see (state_of see d) w →
      IsCoherent see t (after see d.capacity (state_of see d) w) (d.history ++ event_of d w ∷ []) → IsDesk see t (recorded see d w)
  desk-more d w old answer coherent =
      let push = sym (after_all-push see d.capacity (at_start d.opened) d.history (event_of d w)) in
      record {
        entries = ap (λ (s : State A B). s.entries) push;
        play = play-push see d.capacity (at_start d.opened) d.history (event_of d w) old.play answer;
        coherent = subst (λ (s : State A B). IsCoherent see t s (d.history ++ event_of d w ∷ [])) push coherent;
      }

  -- the desk's own revision is listed
  pub now_listed : (d : Desked A B) → IsDesk see t d → Contains (state_of see d).list (state_of see d).now
  now_listed d is =
      let o = is.coherent in
      subst (λ (ps : List (Pin A B)). Contains ps (state_of see d).now) (sym o.last) (Contains-push o.before (state_of see d).now)

  pub now_among : (d : Desked A B) (n : Pin A B) → IsDesk see t d → n ≡ (state_of see d).now → Contains (state_of see d).list n
  now_among d n desk is = subst (Contains (state_of see d).list) (sym is) (now_listed d desk)

  -- what a snapshot has is right at a revision that is the desk's
  pub snapshot-values : (d : Desked A B) (r : A) → IsDesk see t d → (state_of see d).now.revision ≡ r → AreValues t (see r).graph (in_order d.entries)
  snapshot-values d r desk is x h =
      let v = desk.coherent.values x (subst (λ (es : List Entry). Contains es x) desk.entries (in_order-from d.entries x h)) in
      v ∙ ap (λ (z : A). value_at t (see z).graph x.at) is

  -- ---- follow

  -- a record that is no publication
  quiet : (hs : List (Event A B)) (h : Event A B) → ((o : Offered A B) (b : Published) → h.what ≡ what.Publish o b → ⊥) → AreRight see t hs → AreRight see t (hs ++ h ∷ [])
  quiet hs h other right = right-more see t hs h right (λ o b is. absurd (other o b is))

  not_follow : (link : Linked A B) (a : Followed) (o : Offered A B) (b : Published) → ◌≡◌ {A = Act A B} (what.Follow link a) (what.Publish o b) → ⊥
  not_follow link a o b is = cc

  not_settle : (p : Pin A B) (o : Offered A B) (b : Published) → ◌≡◌ {A = Act A B} (what.Settle p) (what.Publish o b) → ⊥
  not_settle p o b is = cc

  not_evict : (m : ℕ) (e : Evicted) (o : Offered A B) (b : Published) → ◌≡◌ {A = Act A B} (what.Evict m e) (what.Publish o b) → ⊥
  not_evict m e o b is = cc

  followed-coherent : (d : Desked A B) (h : Event A B) (link : Linked A B) (a : Followed) → IsDesk see t d →
      IsLink t (see link.from.revision) (see link.to.revision) link.dirty → ((state_of see d).now.index ≡ link.from.index → (state_of see d).now.revision ≡ link.from.revision) →
      IsFollowed (state_of see d).now.index link.from.index a → AreRight see t (d.history ++ h ∷ []) →
      IsCoherent see t (after_follow (state_of see d) link.to link.dirty a) (d.history ++ h ∷ [])
  followed-coherent d h link followed.Kept old right agree answer offers =
      let from = subst (λ (z : A). IsLink t (see z) (see link.to.revision) link.dirty) (sym (agree answer)) right in
      coherent-kept see t link.to h old.coherent from offers
  followed-coherent d h link followed.Cleared old right agree answer offers =
      let from = subst (λ (z : A). IsLink t (see z) (see link.to.revision) link.dirty) (sym (agree answer)) right in
      coherent-cleared see t link.to h old.coherent from offers
  followed-coherent d h link (followed.Restarted g w) old right agree answer offers = coherent-start see t link.to (d.history ++ h ∷ []) offers

  pub desk_followed : (d : Desked A B) (link : Linked A B) (a : Followed) → IsDesk see t d →
      IsLink t (see link.from.revision) (see link.to.revision) link.dirty → ((state_of see d).now.index ≡ link.from.index → (state_of see d).now.revision ≡ link.from.revision) →
      IsFollowed (state_of see d).now.index link.from.index a → IsDesk see t (recorded see d (what.Follow link a))
  desk_followed d link a old right agree answer =
      let h = event_of d (what.Follow link a) in
      let offers = quiet d.history h (not_follow link a) old.coherent.offers in
      desk-more d (what.Follow link a) old answer (followed-coherent d h link a old right agree answer offers)

  -- a step of a desk: the machine's, with an answer that it may give
  pub record IsStep (d : Desked A B) (w : Act A B) (new : Desked A B) : Type 0 where
    pub is : new ≡ recorded see d w
    pub answer : HasAnswer see (state_of see d) w
    pub desk : IsDesk see t new

  followed-entries : (s : State A B) (to : Pin A B) (dirty : List Endpoint) (a : Followed) → entries_followed dirty s.entries a ≡ (after_follow s to dirty a).entries
  followed-entries s to dirty followed.Kept = refl
  followed-entries s to dirty (followed.Restarted h w) = refl
  followed-entries s to dirty followed.Cleared = refl

  recorded-is : (d : Desked A B) (w : Act A B) (o : Pin A B) (c : ℕ) (es : List Entry) (hs : List (Event A B)) (pass : ℕ) → o ≡ d.opened → c ≡ d.capacity →
      es ≡ (after see d.capacity (state_of see d) w).entries → hs ≡ d.history ++ event_of d w ∷ [] → pass ≡ d.pass →
      ◌≡◌ {A = Desked A B} (record { opened = o; capacity = c; entries = es; history = hs; pass = pass }) (recorded see d w)
  recorded-is d w o c es hs pass o-is c-is es-is hs-is pass-is = rw (o-is, c-is, es-is, hs-is, pass-is) refl

  step-made : (d : Desked A B) (w : Act A B) (new : Desked A B) → new ≡ recorded see d w → HasAnswer see (state_of see d) w → IsDesk see t (recorded see d w) → IsStep d w new
  step-made d w new is answer desk = record { is = is; answer = answer; desk = subst (λ (z : Desked A B). IsDesk see t z) (sym is) desk }

  pub follow_step : (d : Desked A B) (link : Linked A B) (b : Bool) (a : Followed) (had : ℕ) (o : Pin A B) (c : ℕ) (es : List Entry) (hs : List (Event A B)) (pass : ℕ) →
      IsDesk see t d → IsLink t (see link.from.revision) (see link.to.revision) link.dirty →
      (IsTrue b → (state_of see d).now.index ≡ link.from.index) → (IsTrue b → (state_of see d).now.revision ≡ link.from.revision) →
      (b ≡ false → (state_of see d).now.index ≢ link.from.index) → had ≡ (state_of see d).now.index → IsFollowedBy b had link.from.index a →
      o ≡ d.opened → c ≡ d.capacity → es ≡ entries_followed link.dirty d.entries a → hs ≡ d.history ++ event_of d (what.Follow link a) ∷ [] → pass ≡ d.pass →
      IsStep d (what.Follow link a) (record { opened = o; capacity = c; entries = es; history = hs; pass = pass })
  follow_step d link b a had o c es hs pass old right yes_ revision no_ had-is by o-is c-is es-is hs-is pass-is =
      let by_now = subst (λ (n : ℕ). IsFollowedBy b n link.from.index a) had-is by in
      let answer = followed-answer b (state_of see d).now.index link.from.index a yes_ no_ by_now in
      let entries-is = es-is ∙ ap (λ (z : List Entry). entries_followed link.dirty z a) old.entries ∙ followed-entries (state_of see d) link.to link.dirty a in
      step-made d (what.Follow link a) (record { opened = o; capacity = c; entries = es; history = hs; pass = pass })
      (recorded-is d (what.Follow link a) o c es hs pass o-is c-is entries-is hs-is pass-is) answer
      (desk_followed d link a old right (agree b yes_ revision no_) answer)
    where
      agree : (b : Bool) → (IsTrue b → (state_of see d).now.index ≡ link.from.index) → (IsTrue b → (state_of see d).now.revision ≡ link.from.revision) →
          (b ≡ false → (state_of see d).now.index ≢ link.from.index) → (state_of see d).now.index ≡ link.from.index → (state_of see d).now.revision ≡ link.from.revision
      agree true yes_ revision no_ is = revision refl
      agree false yes_ revision no_ is = absurd (no_ refl is)

  -- ---- settle and evict

  pub desk_settled : (d : Desked A B) (p : Pin A B) → IsDesk see t d → IsDesk see t (recorded see d (what.Settle p))
  desk_settled d p old =
      desk-more d (what.Settle p) old tt (coherent-start see t p (d.history ++ event_of d (what.Settle p) ∷ []) (quiet d.history (event_of d (what.Settle p)) (not_settle p) old.coherent.offers))

  pub settle_step : (d : Desked A B) (p : Pin A B) (o : Pin A B) (c : ℕ) (es : List Entry) (hs : List (Event A B)) (pass : ℕ) → IsDesk see t d →
      o ≡ d.opened → c ≡ d.capacity → es ≡ [] → hs ≡ d.history ++ event_of d (what.Settle p) ∷ [] → pass ≡ d.pass →
      IsStep d (what.Settle p) (record { opened = o; capacity = c; entries = es; history = hs; pass = pass })
  settle_step d p o c es hs pass old o-is c-is es-is hs-is pass-is =
      step-made d (what.Settle p) (record { opened = o; capacity = c; entries = es; history = hs; pass = pass })
      (recorded-is d (what.Settle p) o c es hs pass o-is c-is es-is hs-is pass-is) tt (desk_settled d p old)

  pub desk_evicted : (d : Desked A B) (m : ℕ) (a : Evicted) → IsDesk see t d → HasAnswer see (state_of see d) (what.Evict m a) → IsDesk see t (recorded see d (what.Evict m a))
  desk_evicted d m a old answer =
      let h = event_of d (what.Evict m a) in
      desk-more d (what.Evict m a) old answer (coherent-evicted see t (length (state_of see d).entries - a.gone) h old.coherent (quiet d.history h (not_evict m a) old.coherent.offers))

  pub evict_step : (d : Desked A B) (m : ℕ) (a : Evicted) (o : Pin A B) (c : ℕ) (es : List Entry) (hs : List (Event A B)) (pass : ℕ) → IsDesk see t d →
      IsEvicted m (length d.entries) a.gone a.end → o ≡ d.opened → c ≡ d.capacity → es ≡ evicted a.gone d.entries → hs ≡ d.history ++ event_of d (what.Evict m a) ∷ [] → pass ≡ d.pass →
      IsStep d (what.Evict m a) (record { opened = o; capacity = c; entries = es; history = hs; pass = pass })
  evict_step d m a o c es hs pass old ended o-is c-is es-is hs-is pass-is =
      let answer = subst (λ (z : List Entry). IsEvicted m (length z) a.gone a.end) old.entries ended in
      step-made d (what.Evict m a) (record { opened = o; capacity = c; entries = es; history = hs; pass = pass })
      (recorded-is d (what.Evict m a) o c es hs pass o-is c-is (es-is ∙ ap (evicted a.gone) old.entries) hs-is pass-is) answer (desk_evicted d m a old answer)

  pub eviction_recorded : (d new : Desked A B) (m : ℕ) (a : Evicted) → false ≡ is_refused a → IsStep d (what.Evict m a) new → IsEviction see d m a new
  eviction_recorded d new m a done step = subst (λ (b : Bool). IsEvictionBy b see d m a new) done (step.is, step.answer)

  pub eviction_refused : (d new : Desked A B) (m : ℕ) (a : Evicted) → true ≡ is_refused a → new ≡ d → IsEviction see d m a new
  eviction_refused d new m a refused same = subst (λ (b : Bool). IsEvictionBy b see d m a new) refused same

  -- ---- publish

  same-coherent : (d : Desked A B) (h : Event A B) → IsDesk see t d → AreRight see t (d.history ++ h ∷ []) →
      IsCoherent see t (holding (state_of see d) (state_of see d).entries) (d.history ++ h ∷ [])
  same-coherent d h old offers = let o = old.coherent in coherent-holding see t (state_of see d).entries h o offers o.values (λ x m. published-later see h x (o.sources x m))

  published-coherent : (d : Desked A B) (h : Event A B) (o : Offered A B) (a : Published) (end : PublishEnd) → h.what ≡ what.Publish o a → IsDesk see t d →
      IsRight see t o → (end ≡ end_of.Unknown o.ticket.index) ⊎ IsListedAs (state_of see d).list o.ticket → AreRight see t (d.history ++ h ∷ []) →
      IsCoherent see t
      (holding (state_of see d) (after_publish d.capacity (state_of see d).entries (unchanged (see o.ticket.revision) (see (state_of see d).now.revision) o.entries) o.hits a.done end)) (d.history ++ h ∷ [])
  published-coherent d h o a (end_of.Unknown i) is old right listed offers = same-coherent d h old offers
  published-coherent d h o a end_of.All is old right (inl none) offers = let absurdly : ⊥ = cc in absurd absurdly
  published-coherent d h o a end_of.All is old right (inr p) offers = coherent-published see t d.capacity p.pin o a h a.done old.coherent p.among p.revision is right
  published-coherent d h o a end_of.NoMemory is old right (inl none) offers = let absurdly : ⊥ = cc in absurd absurdly
  published-coherent d h o a end_of.NoMemory is old right (inr p) offers = coherent-published see t d.capacity p.pin o a h a.done old.coherent p.among p.revision is right

  end-cases : (o : Offered A B) (a : Published) (list : List (Pin A B)) (k : ℕ) (end : PublishEnd) → IsPublishEnd (is_listed list o.ticket.index) o.ticket.index (length o.entries) k a end →
      (is_listed list o.ticket.index ≡ false) ⊎ IsListedAs list o.ticket → (end ≡ end_of.Unknown o.ticket.index) ⊎ IsListedAs list o.ticket
  end-cases o a list k (end_of.Unknown i) answer found = inl (ap end_of.Unknown answer.1)
  end-cases o a list k end_of.All answer (inl none) = absurd (true≢false (sym answer.0 ∙ none))
  end-cases o a list k end_of.All answer (inr p) = inr p
  end-cases o a list k end_of.NoMemory answer (inl none) = absurd (true≢false (sym answer.0 ∙ none))
  end-cases o a list k end_of.NoMemory answer (inr p) = inr p

  pub desk_published : (d : Desked A B) (o : Offered A B) (a : Published) → IsDesk see t d → IsRight see t o →
      (is_listed (state_of see d).list o.ticket.index ≡ false) ⊎ IsListedAs (state_of see d).list o.ticket →
      HasAnswer see (state_of see d) (what.Publish o a) → IsDesk see t (recorded see d (what.Publish o a))
  desk_published d o a old right found answer =
      let s = state_of see d in
      let h = event_of d (what.Publish o a) in
      let offers = right-more see t d.history h old.coherent.offers (λ q b other. offer_right q b other) in
      let cases = end-cases o a s.list (length (unchanged (see o.ticket.revision) (see s.now.revision) o.entries)) a.end answer found in
      desk-more d (what.Publish o a) old answer (published-coherent d h o a a.end refl old right cases offers)
    where
      offer_right : (q : Offered A B) (b : Published) → ◌≡◌ {A = Act A B} (what.Publish o a) (what.Publish q b) → IsRight see t q
      offer_right q b other = let e : o ≡ q = cc in subst (λ (z : Offered A B). IsRight see t z) e right

  -- where the kept entries are put, and where the revision isn't listed
  pub publish_step : (d : Desked A B) (o : Offered A B) (a : Published) (kept : List Entry) (r : Pin A B) (c : ℕ) (es : List Entry) (hs : List (Event A B)) (pass : ℕ) →
      IsDesk see t d → IsRight see t o → IsListedAs (state_of see d).list o.ticket → kept ≡ unchanged (see o.ticket.revision) (see (state_of see d).now.revision) o.entries →
      IsPut (length o.entries) (length kept) a a.end →
      r ≡ d.opened → c ≡ d.capacity → es ≡ put_all d.capacity (take a.done kept) (touched o.hits d.entries) → hs ≡ d.history ++ event_of d (what.Publish o a) ∷ [] → pass ≡ d.pass →
      IsStep d (what.Publish o a) (record { opened = r; capacity = c; entries = es; history = hs; pass = pass })
  publish_step d o a kept r c es hs pass old right listed kept-is put r-is c-is es-is hs-is pass-is =
      let s = state_of see d in
      let there : is_listed s.list o.ticket.index ≡ true = list_any_from (λ (p : Pin A B). p.index == o.ticket.index) s.list listed.pin listed.among (eq-eqb listed.pin.index o.ticket.index listed.index) in
      let sized = subst (λ (z : List Entry). IsPut (length o.entries) (length z) a a.end) kept-is put in
      let answer = put-answer there sized in
      let entries-is =
      es-is ∙ ap (λ (z : List Entry). put_all d.capacity (take a.done z) (touched o.hits d.entries)) kept-is
      ∙ ap (λ (z : List Entry). put_all d.capacity (take a.done (unchanged (see o.ticket.revision) (see s.now.revision) o.entries)) (touched o.hits z)) old.entries
      ∙ put-entries a.end put
      in
      step-made d (what.Publish o a) (record { opened = r; capacity = c; entries = es; history = hs; pass = pass })
      (recorded-is d (what.Publish o a) r c es hs pass r-is c-is entries-is hs-is pass-is) answer (desk_published d o a old right (inr listed) answer)
    where
      put-answer : is_listed (state_of see d).list o.ticket.index ≡ true →
          IsPut (length o.entries) (length (unchanged (see o.ticket.revision) (see (state_of see d).now.revision) o.entries)) a a.end →
          IsPublishEnd (is_listed (state_of see d).list o.ticket.index) o.ticket.index (length o.entries)
          (length (unchanged (see o.ticket.revision) (see (state_of see d).now.revision) o.entries)) a a.end
      put-answer there sized = put-end (is_listed (state_of see d).list o.ticket.index) o.ticket.index (length o.entries)
          (length (unchanged (see o.ticket.revision) (see (state_of see d).now.revision) o.entries)) a a.end there sized

      put-entries : (end : PublishEnd) → IsPut (length o.entries) (length kept) a end →
          put_all d.capacity (take a.done (unchanged (see o.ticket.revision) (see (state_of see d).now.revision) o.entries)) (touched o.hits (state_of see d).entries)
          ≡ after_publish d.capacity (state_of see d).entries (unchanged (see o.ticket.revision) (see (state_of see d).now.revision) o.entries) o.hits a.done end
      put-entries end_of.All h = refl
      put-entries end_of.NoMemory h = refl
      put-entries (end_of.Unknown i) h = absurd h

  pub unknown_step : (d : Desked A B) (o : Offered A B) (a : Published) (r : Pin A B) (c : ℕ) (es : List Entry) (hs : List (Event A B)) (pass : ℕ) →
      IsDesk see t d → IsRight see t o → is_listed (state_of see d).list o.ticket.index ≡ false →
      (a.kept ≡ 0) × (a.late ≡ 0) × (a.done ≡ 0) → a.end ≡ end_of.Unknown o.ticket.index →
      r ≡ d.opened → c ≡ d.capacity → es ≡ d.entries → hs ≡ d.history ++ event_of d (what.Publish o a) ∷ [] → pass ≡ d.pass →
      IsStep d (what.Publish o a) (record { opened = r; capacity = c; entries = es; history = hs; pass = pass })
  unknown_step d o a r c es hs pass old right none none_done end-is r-is c-is es-is hs-is pass-is =
      let s = state_of see d in
      let k = length (unchanged (see o.ticket.revision) (see s.now.revision) o.entries) in
      let answer = subst (λ (e : PublishEnd). IsPublishEnd (is_listed s.list o.ticket.index) o.ticket.index (length o.entries) k a e) (sym end-is) (none, refl, none_done.0, none_done.1, none_done.2) in
      let entries-is =
      es-is ∙ old.entries
      ∙ ap (λ (e : PublishEnd). after_publish d.capacity s.entries (unchanged (see o.ticket.revision) (see s.now.revision) o.entries) o.hits a.done e) (sym end-is)
      in
      step-made d (what.Publish o a) (record { opened = r; capacity = c; entries = es; history = hs; pass = pass })
      (recorded-is d (what.Publish o a) r c es hs pass r-is c-is entries-is hs-is pass-is) answer (desk_published d o a old right (inl none) answer)

  -- ---- room for records

  pub spare-step : (hs : List (Event A B)) (h : Event A B) → is_step h.what ≡ true → spare (hs ++ h ∷ []) ≡ spare hs - 1
  spare-step hs h step =
      let l = ap length (filter-append (λ (e : Event A B). is_step e.what) hs (h ∷ [])) in
      let m = length-append (filter (λ (e : Event A B). is_step e.what) hs) (filter (λ (e : Event A B). is_step e.what) (h ∷ [])) in
      let n : length (filter (λ (e : Event A B). is_step e.what) (h ∷ [])) ≡ 1 = ap (λ b. length (cond b (h ∷ []) [])) step in
      omega (arith, l, m, n)

  pub spare-other : (hs : List (Event A B)) (h : Event A B) → is_step h.what ≡ false → spare (hs ++ h ∷ []) ≡ spare hs
  spare-other hs h other =
      let l = ap length (filter-append (λ (e : Event A B). is_step e.what) hs (h ∷ [])) in
      let m = length-append (filter (λ (e : Event A B). is_step e.what) hs) (filter (λ (e : Event A B). is_step e.what) (h ∷ [])) in
      let n : length (filter (λ (e : Event A B). is_step e.what) (h ∷ [])) ≡ 0 = ap (λ b. length (cond b (h ∷ []) [])) other in
      omega (arith, l, m, n)

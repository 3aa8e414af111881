-- What a call tells where there is a record.
use Rattle.std.proofs.Common.{◌≡◌, ℕ, Bool, true, false, Option, Some, None, is_some, sym, true≢false}
use Rattle.dg_cache.specs.declared.cache.Evicted.{Evicted}
use Rattle.dg_desk.specs.declared.event.Published.{Published}
use Rattle.dg_desk.specs.Desks.{Desked, IsEvictionBy, IsPublication}
use Rattle.dg_line.specs.Revisions.{Seen}
use Rattle.dg_offer.specs.Offers.{Offered}
use Rattle.dg_room.specs.Made.{Passed, passed, with_eviction, with_publication}
use Rattle.dg_room.specs.Tells.{EvictTells, PublishTells}

pub tells-recorded : {A B : Type 0} (see : A → Seen) (d new : Desked A B) (o : Offered A B) (a : Published) (p q : Passed) (place : Option ℕ) → is_some place ≡ true →
    IsPublication see d o a new place → q ≡ passed p.number (with_publication p.made) → PublishTells o p q a place
tells-recorded see d new o a p q None some is told = absurd (true≢false (sym some))
tells-recorded see d new o a p q (Some k) some is told = (told, record { listed = _; kept = _; is = is.2 })

pub tells-dropped : {A B : Type 0} (see : A → Seen) (d new : Desked A B) (most : ℕ) (a : Evicted) (p q : Passed) (refused : Bool) → refused ≡ false →
    IsEvictionBy refused see d most a new → q ≡ passed p.number (with_eviction p.made) → EvictTells most p q a refused
tells-dropped see d new most a p q false none is told = (told, record { entries = _; is = is.1 })
tells-dropped see d new most a p q true none is told = absurd (true≢false none)

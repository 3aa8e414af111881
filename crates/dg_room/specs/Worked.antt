-- What the two histories of the desk have: two follows, a late publication and an eviction; and a link from elsewhere with an unknown offer.
use Rattle.std.specs.Prelude.{ℕ}
use Rattle.dg_room.specs.Made.{Made}

abbrev pub made : ℕ → ℕ → ℕ → Made
made follows publications evictions = record { follows = follows; publications = publications; evictions = evictions }

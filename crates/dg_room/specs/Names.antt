-- What names a room: how many passes it has, and the names of its ledgers.
use Rattle.std.specs.Prelude.{◌≡◌, ℕ, ◌*◌, ◌-◌}
use Rattle.dg_room.specs.declared.names.Blanks.{Blanks}

pub record Names : Type 0 where
  pub passes : ℕ
  pub follows : ℕ
  pub publications : ℕ
  pub evictions : ℕ

-- the ledger of follows has one part, which pass 0 has. The others have two parts for each pass, but one for pass 0. So as many passes as there are
-- have all parts of each: were pass 0 not among them, they would have more parts than there are
abbrev pub act_parts : ℕ → ℕ
act_parts passes = 2 * passes - 1

-- the ledgers have these names, and their parts
pub record AreNamed (n : Names) (b : Blanks) : Type 0 where
  pub follows_name : b.follows.name ≡ n.follows
  pub follows_parts : b.follows.parts ≡ 1
  pub publications_name : b.publications.name ≡ n.publications
  pub publications_parts : b.publications.parts ≡ act_parts n.passes
  pub evictions_name : b.evictions.name ≡ n.evictions
  pub evictions_parts : b.evictions.parts ≡ act_parts n.passes

-- the names of ledgers, for whoever picks them
abbrev pub names_of : ℕ → Blanks → Names
names_of passes b = record { passes = passes; follows = b.follows.name; publications = b.publications.name; evictions = b.evictions.name }

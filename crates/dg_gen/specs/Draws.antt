-- The numbers that are drawn from a seed.
use Rattle.std.specs.Prelude.{ℕ, zero, suc, ◌+◌, ◌-◌, ◌*◌, ◌/◌, ◌%◌, ◌^◌, List, map, get_or}
use Rattle.std.specs.List.{range_with_len}

-- the state with one draw more
abbrev pub next : ℕ → ℕ
next state = (state * 1103515245 + 12345) % 2 ^ 31

-- the state after so many draws
abbrev pub state_after : ℕ → ℕ → ℕ
state_after seed zero = seed % 2 ^ 31
state_after seed (suc count) = next (state_after seed count)

-- the draw at a place, from 0, which the state after it gives
abbrev pub drawn : ℕ → ℕ → ℕ
drawn seed place = state_after seed (suc place) / 65536 % 100

-- the first so many draws
abbrev pub draws : ℕ → ℕ → List ℕ
draws seed count = map (drawn seed) (range_with_len 0 count)

-- one of them
abbrev pub draw_at : List ℕ → ℕ → ℕ
draw_at all place = get_or all place 0

-- The files of a project take one draw for each script, then one for the first collection and two for each other.
-- The rounds of its script take two each, behind them.
abbrev pub draws_of_files : ℕ → ℕ
draws_of_files size = 3 * size - 1

abbrev pub draws_of_project : ℕ → ℕ
draws_of_project size = draws_of_files size + 2 * size

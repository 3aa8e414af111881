-- The script that is played over a generated project: rounds that each edit and ask, and last a build.
use Rattle.std.specs.Prelude.{ℕ, ◌+◌, ◌*◌, ◌-◌, List, ◌++◌, flat_map, codes}
use Rattle.std.specs.List.{range_with_len}
use Rattle.std.specs.Fmt.{decimal}
use Rattle.dg_gen.specs.Draws.{draw_at, draws_of_files}

-- the game object in the collection with this number is moved
abbrev pub move_line : ℕ → ℕ → List ℕ
move_line round x = codes "set /g/c" ++ (decimal round ++ (codes ".collection#a.position vec3 " ++ (decimal x ++ codes " 0 0\n")))

abbrev pub pin_line : ℕ → List ℕ
pin_line round = codes "pin p" ++ (decimal round ++ codes "\n")

-- the game object with this number gets a speed
abbrev pub speed_line : ℕ → ℕ → List ℕ
speed_line round speed = codes "set /g/o" ++ (decimal round ++ (codes ".go#s:speed number \"" ++ (decimal speed ++ codes "\"\n")))

-- the last collection is asked for as it was pinned
abbrev pub pinned_line : ℕ → ℕ → List ℕ
pinned_line round last = codes "ask p" ++ (decimal round ++ (codes " /g/c" ++ (decimal last ++ codes ".collection.flat\n")))

-- and as it is once the speed is undone
abbrev pub undone_lines : ℕ → List ℕ
undone_lines last = codes "undo\nask now /g/c" ++ (decimal last ++ codes ".collection.flat\nredo\n")

abbrev pub build_line : ℕ → List ℕ
build_line last = codes "build /g/c" ++ (decimal last ++ codes ".collection\n")

abbrev pub round_lines : ℕ → ℕ → ℕ → ℕ → List ℕ
round_lines last round x speed =
    move_line round x ++ pin_line round ++ speed_line round speed ++ pinned_line round last ++ undone_lines last

-- a round has two draws, behind those of the files and of the rounds before it
abbrev pub round_of : List ℕ → ℕ → ℕ → List ℕ
round_of draws size round =
    round_lines (size - 1) round (draw_at draws (draws_of_files size + 2 * round)) (draw_at draws (draws_of_files size + 2 * round + 1))

abbrev pub script_of : List ℕ → ℕ → List ℕ
script_of draws size = flat_map (round_of draws size) (range_with_len 0 size) ++ build_line (size - 1)

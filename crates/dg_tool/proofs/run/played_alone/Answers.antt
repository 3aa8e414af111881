use Rattle.std.proofs.Common.{map, string_bytes}
use Rattle.dg_kinds_coll.specs.Defold.{defold_tables}
use Rattle.dg_words.specs.Tasks.{task_in}
use Rattle.dg_tool.specs.Out.{doing_in}
use Rattle.dg_tool.proofs.Starts.{told-out-of}
use Rattle.dg_tool.proofs.run.played_alone.Goals as goal

pub returns-in-Ok-Told-clause-told : goal.returns-in-Ok-Told-clause-told
returns-in-Ok-Told-clause-told g c = λ t by.
    told-out-of _ defold_tables (doing_in defold_tables t (task_in (map string_bytes c.args.words.now))) c.told.result c.in-Ok-Told.pieces c.in-Ok-Told.field-0 c.in-Ok-Told.field-0-is
    (c.in-Ok-Told.ensures.started t by) c.told.ensures.status c.told.ensures.pieces

use Rattle.std.proofs.Common.{sym, ◌∙◌}
use Rattle.dg_sources.proofs.NextFiles.{next-read}
use Rattle.dg_sources.proofs.project.read_next.Goals as goal

pub returns-in_ok-add_file-in-Ok-clause-told : goal.returns-in_ok-add_file-in-Ok-clause-told
returns-in_ok-add_file-in-Ok-clause-told g c =
    next-read (g.F.Files.tree c.args.files.now) c.args.room c.in-Ok.left c.args.path.now c.as_str-text.result.now c.in_ok-found.found c.args.sources.now c.add_file.new.sources
    c.as_str-text.ensures c.in_ok-found.ensures.told (sym c.room_behind.ensures ∙ c.in-Ok.is) c.in_ok-add_file-in-Ok.ensures

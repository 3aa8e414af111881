use Rattle.std.proofs.Common.{◌∙◌, Some, ap, string_bytes}
use Rattle.std.specs.Str.{bytes_eq}
use Rattle.std.specs.Option.{option_map}
use Rattle.dg_base.specs.Names.{label_at, place_of}
use Rattle.dg_base.proofs.NameLists.{position_map}
use Rattle.dg_base.proofs.names.Names.find.Goals as goal

pub returns-in-Some : goal.returns-in-Some
returns-in-Some c =
    ap Some c.label_at.ensures
    ∙ ap (option_map label_at) (c.in-Some.ensures.index ∙ position_map string_bytes (bytes_eq c.args.text.now) _ ∙ ap (λ ns. place_of ns c.args.text.now) c.self.view_is)

pub returns-in-None : goal.returns-in-None
returns-in-None c =
    ap (option_map label_at) (c.in-None.ensures.index ∙ position_map string_bytes (bytes_eq c.args.text.now) _ ∙ ap (λ ns. place_of ns c.args.text.now) c.self.view_is)

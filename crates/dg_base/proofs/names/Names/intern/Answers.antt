use Rattle.std.proofs.Common.{◌≡◌, ◌∷◌, [], ◌++◌, ◌∙◌, cond, Some, is_some, ap, sym, map, refl, rules, string_bytes}
use Rattle.std.proofs.lemmas.Slice.Eq.{bytes_eq-Decides}
use Rattle.std.specs.List.{list_any, position_or_len}
use Rattle.std.specs.Option.{option_map}
use Rattle.std.specs.Prelude.{position}
use Rattle.std.specs.Str.{bytes_eq}
use Rattle.dg_base.specs.Names.{label_at, place_of}
use Rattle.dg_base.proofs.NameLists.{position_map, position_put, is_found, map_put}
use Rattle.dg_base.proofs.names.Names.intern.Goals as goal

pub returns-clause-names : goal.returns-clause-names
returns-clause-names c =
    let v = c.in_ok-text.text in
    let keys = c.self.inside.texts.keys in
    let text = c.args.text.now in
    let is : string_bytes c.in_ok-text.text ≡ c.args.text.now = search rules in
    let put : c.insert_full.new.self.keys ≡ cond (list_any (λ k. bytes_eq (string_bytes c.in_ok-text.text) (string_bytes k)) c.self.inside.texts.keys)
    c.self.inside.texts.keys (c.self.inside.texts.keys ++ c.in_ok-text.text ∷ []) = search rules in
    let there : list_any (λ k. bytes_eq (string_bytes c.in_ok-text.text) (string_bytes k)) c.self.inside.texts.keys ≡ is_some (place_of c.args.self.now c.args.text.now) =
    sym (is_found (λ k. bytes_eq (string_bytes v) (string_bytes k)) keys)
    ∙ ap is_some (position_map string_bytes (bytes_eq (string_bytes v)) keys ∙ ap (λ ns. place_of ns (string_bytes v)) c.self.view_is ∙ ap (place_of c.args.self.now) is) in
    ap (map string_bytes) put ∙ map_put string_bytes _ keys v
    ∙ ap (λ b. cond b (map string_bytes keys) (map string_bytes keys ++ string_bytes v ∷ [])) there
    ∙ ap (λ ns. cond (is_some (place_of c.args.self.now text)) ns (ns ++ string_bytes v ∷ [])) c.self.view_is
    ∙ ap (λ t. cond (is_some (place_of c.args.self.now text)) c.args.self.now (c.args.self.now ++ t ∷ [])) is

pub returns-clause-label : goal.returns-clause-label
returns-clause-label c =
    let v = c.in_ok-text.text in
    let keys = c.self.inside.texts.keys in
    let new = c.insert_full.new.self.keys in
    let is : string_bytes c.in_ok-text.text ≡ c.args.text.now = search rules in
    let put : c.insert_full.new.self.keys ≡ cond (list_any (λ k. bytes_eq (string_bytes c.in_ok-text.text) (string_bytes k)) c.self.inside.texts.keys)
    c.self.inside.texts.keys (c.self.inside.texts.keys ++ c.in_ok-text.text ∷ []) = search rules in
    let at : c.in_ok-place.place ≡ position_or_len (λ k. bytes_eq (string_bytes c.in_ok-text.text) (string_bytes k)) c.self.inside.texts.keys = search rules in
    let place : place_of (map string_bytes c.insert_full.new.self.keys) c.args.text.now ≡ Some c.in_ok-place.place =
    ap (place_of (map string_bytes new)) (sym is) ∙ sym (position_map string_bytes (bytes_eq (string_bytes v)) new)
    ∙ ap (position (λ k. bytes_eq (string_bytes v) (string_bytes k))) put
    ∙ position_put (λ k. bytes_eq (string_bytes v) (string_bytes k)) keys v ((bytes_eq-Decides (string_bytes v) (string_bytes v)).1 refl) ∙ ap Some (sym at) in
    ap (option_map label_at) place ∙ ap Some (sym c.label_at.ensures)

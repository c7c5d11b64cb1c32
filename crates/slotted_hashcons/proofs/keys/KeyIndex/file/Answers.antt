use Rattle.std.proofs.Common.{ℕ, ◌≡◌, ◌∙◌, ap, sym, subst, Option, Some, List, [], ◌∷◌, ◌++◌, length, map, ◌<◌, arith}
use Rattle.std.specs.Prelude.{set}
use Rattle.std.proofs.lemmas.List.{length-map}
use Rattle.slotted_hashcons.specs.Filed.{Filing, FiledRow, IsIndexed, IsNewKey, filed_of, filed_at, filed_row, rows_of}
use Rattle.slotted_hashcons.proofs.Indexed.{filed_in, indexed-filed, view-filed, no-place}
use Rattle.slotted_hashcons.proofs.KeyedRows.{new-key}
use Rattle.slotted_classes.proofs.RowsByForm.{rows-insert_entry}
use Rattle.slotted_hashcons.proofs.keys.KeyIndex.file.Goals as goal

pub invariant_of-self-2 : goal.invariant_of-self-2
invariant_of-self-2 g c =
    let form = g.L.LanguageChildren.form in
    let rows : List FiledRow = rows_of form c.self.inside.nodes in
    let places = c.self.inside.places.items in
    let view = c.self.view_is in
    let new = subst (λ (v : List (Option Filing)). IsNewKey v (form c.args.key)) (sym view) c.requires.new_key in
    let free = no-place rows places c.self.invariant c.args.class (ap (λ (v : List (Option Filing)). filed_of v c.args.class) view ∙ c.requires.free) in
    let count = ap length view in
    let same = length-map places (filed_at rows) in
    let inside = c.requires.within in
    let within : c.args.class < length places = omega (arith, count, same, inside) in
    let grown = ap (map (filed_row form)) c.in_ok-insert.ensures.entries ∙ rows-insert_entry g.L.PartialEq.eq form (λ (n : ℕ). (n, [])) g.met.L.LanguageChildren.same c.self.inside.nodes.entries c.args.key c.in_ok-source.source (new-key rows places c.self.invariant (form c.args.key) new) ∙ ap (λ n. rows ++ (form c.args.key, (n, [])) ∷ []) c.in_ok-source.ensures.ok in
    let place : c.in_ok-place.place ≡ length rows = c.in_ok-place.ensures.ok ∙ c.len.ensures.len ∙ sym (length-map c.self.inside.nodes.entries (filed_row form)) in
    subst (λ (rs : List FiledRow). IsIndexed rs (set places c.args.class (Some c.in_ok-place.place))) (sym grown)
    (subst (λ n. IsIndexed (rows ++ (form c.args.key, (c.args.class, [])) ∷ []) (set places c.args.class (Some n))) (sym place)
    (indexed-filed rows places c.args.class (form c.args.key) [] c.self.invariant within free new))

pub returns-clause-ok : goal.returns-clause-ok
returns-clause-ok g c =
    let form = g.L.LanguageChildren.form in
    let rows : List FiledRow = rows_of form c.self.inside.nodes in
    let places = c.self.inside.places.items in
    let view = c.self.view_is in
    let new = subst (λ (v : List (Option Filing)). IsNewKey v (form c.args.key)) (sym view) c.requires.new_key in
    let free = no-place rows places c.self.invariant c.args.class (ap (λ (v : List (Option Filing)). filed_of v c.args.class) view ∙ c.requires.free) in
    let count = ap length view in
    let same = length-map places (filed_at rows) in
    let inside = c.requires.within in
    let within : c.args.class < length places = omega (arith, count, same, inside) in
    let grown = ap (map (filed_row form)) c.in_ok-insert.ensures.entries ∙ rows-insert_entry g.L.PartialEq.eq form (λ (n : ℕ). (n, [])) g.met.L.LanguageChildren.same c.self.inside.nodes.entries c.args.key c.in_ok-source.source (new-key rows places c.self.invariant (form c.args.key) new) ∙ ap (λ n. rows ++ (form c.args.key, (n, [])) ∷ []) c.in_ok-source.ensures.ok in
    let place : c.in_ok-place.place ≡ length rows = c.in_ok-place.ensures.ok ∙ c.len.ensures.len ∙ sym (length-map c.self.inside.nodes.entries (filed_row form)) in
    (λ i. filed_in (grown i) (set places c.args.class (Some (place i))))
    ∙ view-filed rows places c.args.class (form c.args.key) [] c.self.invariant within free new
    ∙ ap (λ (v : List (Option Filing)). set v c.args.class (Some (form c.args.key, []))) view

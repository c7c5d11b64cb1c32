use Rattle.std.proofs.Common.{◌≡◌, ◌∙◌, ap, sym, subst, Option, None, Some, List, length, arith}
use Rattle.std.specs.Prelude.{set, slice_get, swap_remove}
use Rattle.std.proofs.lemmas.List.{length-map, set-get_or}
use Rattle.std.proofs.lemmas.Option.{slice_get_within}
use Rattle.slotted_hashcons.specs.Filed.{Filing, FiledRow, IsIndexed, filed_of, filed_at, rows_of, no_row}
use Rattle.slotted_hashcons.proofs.Places.{read-any, swapped-none}
use Rattle.slotted_hashcons.proofs.Indexed.{filed_in, filed-at, source-row, no-row, source-within, indexed-last, view-last, indexed-moved, view-moved}
use Rattle.slotted_hashcons.proofs.keys.KeyIndex.unfile.Goals as goal

pub remove_at-requires : goal.remove_at-requires
remove_at-requires g c =
    let rows : List FiledRow = rows_of g.L.LanguageChildren.form c.self.inside.nodes in
    let places = c.self.inside.places.items in
    let count = ap length c.self.view_is in
    let same = length-map places (filed_at rows) in
    let inside = c.requires in
    let at = read-any places c.args.class c.index.result.now None (omega (arith, count, same, inside)) c.index.ensures ∙ c.in-Some.is in
    let r = c.self.invariant.rows_at c.args.class c.in-Some.place at in
    slice_get_within rows c.in-Some.place r.0 r.1

pub index_mut-requires-in-Some-source_at : goal.index_mut-requires-in-Some-source_at
index_mut-requires-in-Some-source_at g c =
    let rows : List FiledRow = rows_of g.L.LanguageChildren.form c.self.inside.nodes in
    let places = c.self.inside.places.items in
    let count = ap length c.self.view_is in
    let same = length-map places (filed_at rows) in
    let inside = c.requires in
    let at = read-any places c.args.class c.index.result.now None (omega (arith, count, same, inside)) c.index.ensures ∙ c.in-Some.is in
    let r = source-row (slice_get (rows_of g.L.LanguageChildren.form c.remove_at.new.nodes) c.in-Some.place) c.in-Some-source_at.moved (sym c.in-Some-source_at.is ∙ c.source_at.ensures) in
    let moves = ap (λ (rs : List FiledRow). slice_get rs c.in-Some.place) (sym (c.remove_at.ensures no_row)) ∙ r.1 in
    let within = source-within rows places c.args.class c.in-Some.place no_row c.self.invariant at r.0 moves in
    let is = r.2 in
    omega (arith, within, is, c.self.inside.places.ok)

pub invariant_of-self : goal.invariant_of-self
invariant_of-self g c =
    let rows : List FiledRow = rows_of g.L.LanguageChildren.form c.self.inside.nodes in
    let places = c.self.inside.places.items in
    let count = ap length c.self.view_is in
    let same = length-map places (filed_at rows) in
    let inside = c.requires in
    let at = read-any places c.args.class c.index.result.now None (omega (arith, count, same, inside)) c.index.ensures ∙ c.in-Some.is in
    let r = source-row (slice_get (rows_of g.L.LanguageChildren.form c.remove_at.new.nodes) c.in-Some.place) c.in-Some-source_at.moved (sym c.in-Some-source_at.is ∙ c.source_at.ensures) in
    let moves = ap (λ (rs : List FiledRow). slice_get rs c.in-Some.place) (sym (c.remove_at.ensures no_row)) ∙ r.1 in
    subst (λ (rs : List FiledRow). IsIndexed rs (set (set places c.args.class None) c.in-Some-source_at.moved (Some c.in-Some.place))) (sym (c.remove_at.ensures no_row))
    (subst (λ m. IsIndexed (swap_remove rows c.in-Some.place no_row) (set (set places c.args.class None) m (Some c.in-Some.place))) r.2
    (indexed-moved rows places c.args.class c.in-Some.place no_row c.self.invariant at r.0 moves))

pub invariant_of-self-in-None-source_at : goal.invariant_of-self-in-None-source_at
invariant_of-self-in-None-source_at g c =
    let rows : List FiledRow = rows_of g.L.LanguageChildren.form c.self.inside.nodes in
    let places = c.self.inside.places.items in
    let count = ap length c.self.view_is in
    let same = length-map places (filed_at rows) in
    let inside = c.requires in
    let at = read-any places c.args.class c.index.result.now None (omega (arith, count, same, inside)) c.index.ensures ∙ c.in-Some.is in
    let r = c.self.invariant.rows_at c.args.class c.in-Some.place at in
    let none = no-row (slice_get (rows_of g.L.LanguageChildren.form c.remove_at.new.nodes) c.in-Some.place) (sym c.in-None-source_at.is ∙ c.source_at.ensures) in
    let end = swapped-none rows c.in-Some.place no_row (slice_get_within rows c.in-Some.place r.0 r.1) (ap (λ (rs : List FiledRow). slice_get rs c.in-Some.place) (sym (c.remove_at.ensures no_row)) ∙ none) in
    subst (λ (rs : List FiledRow). IsIndexed rs (set places c.args.class None)) (sym (c.remove_at.ensures no_row))
    (indexed-last rows places c.args.class c.in-Some.place no_row c.self.invariant at end)

pub returns-in-Some-source_at : goal.returns-in-Some-source_at
returns-in-Some-source_at g c =
    let rows : List FiledRow = rows_of g.L.LanguageChildren.form c.self.inside.nodes in
    let places = c.self.inside.places.items in
    let count = ap length c.self.view_is in
    let same = length-map places (filed_at rows) in
    let inside = c.requires in
    let at = read-any places c.args.class c.index.result.now None (omega (arith, count, same, inside)) c.index.ensures ∙ c.in-Some.is in
    let r = source-row (slice_get (rows_of g.L.LanguageChildren.form c.remove_at.new.nodes) c.in-Some.place) c.in-Some-source_at.moved (sym c.in-Some-source_at.is ∙ c.source_at.ensures) in
    let moves = ap (λ (rs : List FiledRow). slice_get rs c.in-Some.place) (sym (c.remove_at.ensures no_row)) ∙ r.1 in
    (λ i. filed_in (c.remove_at.ensures no_row i) (set (set places c.args.class None) (sym r.2 i) (Some c.in-Some.place)))
    ∙ view-moved rows places c.args.class c.in-Some.place no_row c.self.invariant at r.0 moves
    ∙ ap (λ (v : List (Option Filing)). set v c.args.class None) c.self.view_is

pub returns-in-None-source_at : goal.returns-in-None-source_at
returns-in-None-source_at g c =
    let rows : List FiledRow = rows_of g.L.LanguageChildren.form c.self.inside.nodes in
    let places = c.self.inside.places.items in
    let count = ap length c.self.view_is in
    let same = length-map places (filed_at rows) in
    let inside = c.requires in
    let at = read-any places c.args.class c.index.result.now None (omega (arith, count, same, inside)) c.index.ensures ∙ c.in-Some.is in
    let r = c.self.invariant.rows_at c.args.class c.in-Some.place at in
    let none = no-row (slice_get (rows_of g.L.LanguageChildren.form c.remove_at.new.nodes) c.in-Some.place) (sym c.in-None-source_at.is ∙ c.source_at.ensures) in
    let end = swapped-none rows c.in-Some.place no_row (slice_get_within rows c.in-Some.place r.0 r.1) (ap (λ (rs : List FiledRow). slice_get rs c.in-Some.place) (sym (c.remove_at.ensures no_row)) ∙ none) in
    (λ i. filed_in (c.remove_at.ensures no_row i) (set places c.args.class None))
    ∙ view-last rows places c.args.class c.in-Some.place no_row c.self.invariant at end
    ∙ ap (λ (v : List (Option Filing)). set v c.args.class None) c.self.view_is

pub returns-in-None : goal.returns-in-None
returns-in-None g c =
    let rows : List FiledRow = rows_of g.L.LanguageChildren.form c.self.inside.nodes in
    let places = c.self.inside.places.items in
    let count = ap length c.self.view_is in
    let same = length-map places (filed_at rows) in
    let inside = c.requires in
    let at = read-any places c.args.class c.index.result.now None (omega (arith, count, same, inside)) c.index.ensures ∙ c.in-None.is in
    let nothing : filed_of c.args.self.now c.args.class ≡ None = ap (λ (v : List (Option Filing)). filed_of v c.args.class) (sym c.self.view_is) ∙ filed-at rows places c.args.class ∙ ap (filed_at rows) at in
    sym (set-get_or c.args.self.now c.args.class None) ∙ ap (set c.args.self.now c.args.class) nothing

use Rattle.std.proofs.Common.{◌≡◌, ◌∙◌, ap, sym, map, set, string_bytes, length, arith}
use Rattle.std.proofs.lemmas.List.{length-map, length-set, map-set}
use Rattle.slotted_slots.specs.Syntax.{element_of}
use Rattle.slotted_patterns.specs.Shown.{node_text}
use Rattle.slotted_changes.specs.Steps.{level_of}
use Rattle.slotted_changes.proofs.Texts.{surround}
use Rattle.slotted_changes.proofs.around.around.Goals as goal

pub with_text-texts-requires : goal.with_text-texts-requires
with_text-texts-requires g c =
    let n : length c.in_ok-texts.texts.items ≡ length c.args.step.now.children.now = sym (length-map _ _) ∙ (ap length c.in_ok-texts.ensures.ok ∙ length-map _ _) in
    omega (arith, n, c.requires.within)

pub with_text-texts-requires-2 : goal.with_text-texts-requires-2
with_text-texts-requires-2 g c =
    let n : length c.in_ok-texts.texts.items ≡ length c.args.step.now.children.now = sym (length-map _ _) ∙ (ap length c.in_ok-texts.ensures.ok ∙ length-map _ _) in
    let m : length c.with_text-texts.result.items ≡ length c.in_ok-texts.texts.items = ap length c.with_text-texts.ensures ∙ length-set c.in_ok-texts.texts.items c.args.step.now.at c.args.inner.first in
    omega (arith, n, m, c.requires.within)

pub returns-clause-ok : goal.returns-clause-ok
returns-clause-ok g c =
    let step = c.args.step.now in
    let t = c.args.table.now in
    let k = step.at in
    let es = g.L.LanguageChildren.shown step.node.now in
    let texts = c.in_ok-texts.texts.items in
    let us = map string_bytes texts in
    let elements : map element_of c.deref.result.now ≡ es = ap (map element_of) c.deref.ensures.value ∙ c.in_ok-elements.ensures.ok in
    let elements-2 : map element_of c.deref-3.result.now ≡ es = ap (map element_of) c.deref-3.ensures.value ∙ c.in_ok-elements.ensures.ok in
    let one : map string_bytes c.with_text-texts.result.items ≡ set us k (string_bytes c.args.inner.first) =
    ap (map string_bytes) c.with_text-texts.ensures ∙ map-set string_bytes texts k c.args.inner.first in
    let two : map string_bytes c.with_text-texts-2.result.items ≡ set (set us k (string_bytes c.args.inner.first)) k (string_bytes c.args.inner.second) =
    ap (map string_bytes) c.with_text-texts-2.ensures ∙ (map-set string_bytes c.with_text-texts.result.items k c.args.inner.second ∙ ap (λ vs. set vs k (string_bytes c.args.inner.second)) one) in
    let first : string_bytes c.in_ok-first.first ≡ node_text t es (set us k (string_bytes c.args.inner.first)) =
    c.in_ok-first.ensures.ok ∙ (λ i. node_text t (elements i) ((ap (map string_bytes) c.deref-2.ensures.value ∙ one) i)) in
    let second : string_bytes c.in_ok-second.second ≡ node_text t es (set (set us k (string_bytes c.args.inner.first)) k (string_bytes c.args.inner.second)) =
    c.in_ok-second.ensures.ok ∙ (λ i. node_text t (elements-2 i) ((ap (map string_bytes) c.deref-4.ensures.value ∙ two) i)) in
    surround g.L.Printable.written t (level_of g.L.LanguageChildren.form step) es (g.met.L.Printable.written_as step.node.now) us c.in_ok-texts.ensures.ok c.requires
    (string_bytes c.args.inner.first) (string_bytes c.args.inner.second) (string_bytes c.in_ok-first.first) (string_bytes c.in_ok-second.second) first second

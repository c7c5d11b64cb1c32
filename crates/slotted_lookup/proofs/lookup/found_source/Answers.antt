-- The slots that are filed, with a name for each.
use Rattle.std.proofs.Common.{◌≡◌, ◌∙◌, ℕ, List, Option, Some, ap, sym, length, arith}
use Rattle.std.specs.Prelude.{option_map}
use Rattle.slotted_model.specs.Applied.{keys}
use Rattle.slotted_model.specs.Find.{find}
use Rattle.slotted_hashcons.specs.Filed.{Filing, filed_of}
use Rattle.slotted_hashcons.proofs.Indexed.{place-within}
use Rattle.slotted_classes.specs.Kept.{entries_of}
use Rattle.slotted_classes.specs.Names.{between}
use Rattle.slotted_classes.proofs.KeptLists.{length-mapped}
use Rattle.slotted_classes.proofs.StoredFinds.{stored-finds}
use Rattle.slotted_lookup.specs.LookUp.{slots_beside}
use Rattle.slotted_lookup.proofs.lookup.found_source.Goals as goal

-- what is filed of a class, as it was read
slots-are : (v : List (Option Filing)) (i : ℕ) (e : Filing) → Some e ≡ filed_of v i → e.1 ≡ slots_beside (filed_of v i)
slots-are v i e is = ap slots_beside is

as-many : (m n : List (ℕ × ℕ)) → keys m ≡ keys n → length m ≡ length n
as-many m n e = sym (length-mapped (λ (p : ℕ × ℕ). p.0) m) ∙ (ap length e ∙ length-mapped (λ (p : ℕ × ℕ). p.0) n)

pub map_between-requires : goal.map_between-requires
map_between-requires g c =
    let form = g.L.LanguageChildren.form in
    let r = c.args.nodes.now in
    let h = c.requires.names in
    let read = ap (option_map (λ p. (form p.0.now, p.1.now))) (sym c.in-Some.is) ∙ c.node.ensures in
    let same = slots-are r.filed c.args.class (form c.in-Some.field-0-0.now, c.in-Some.slots.now) read ∙ sym (slots-are r.filed c.args.class (h.key, h.slots) (sym h.filed)) in
    as-many c.in-Some.slots.now c.args.names.now (ap keys same ∙ h.numbers)

pub found_with-requires-clause-good : goal.found_with-requires-clause-good
found_with-requires-clause-good g c = stored-finds c.args.store.now c.requires.good.stored

pub found_with-requires-clause-within : goal.found_with-requires-clause-within
found_with-requires-clause-within g c =
    let h = c.requires.names in
    omega (arith, place-within c.args.nodes.now.filed c.args.class (h.key, h.slots) h.filed, c.requires.good.count)

pub returns-clause-ok : goal.returns-clause-ok
returns-clause-ok g c =
    let form = g.L.LanguageChildren.form in
    let k = c.args.store.now in
    let r = c.args.nodes.now in
    let read = ap (option_map (λ p. (form p.0.now, p.1.now))) (sym c.in-Some.is) ∙ c.node.ensures in
    let same = slots-are r.filed c.args.class (form c.in-Some.field-0-0.now, c.in-Some.slots.now) read in
    c.in_ok-found-in-Some.ensures.ok ∙ ap (λ m. find (entries_of k) (c.args.class, m)) (c.in_ok-named-in-Some.ensures.ok ∙ ap (λ m. between m c.args.names.now) same)

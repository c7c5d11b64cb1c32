-- Each event keeps storage sound.
use Rattle.std.proofs.Common.{◌≡◌, ◌≢◌, ℕ, suc, ◌<◌, List, [], ◌∷◌, ◌++◌, length, sym, ◌∙◌, ap, subst, refl, arith}
use Rattle.std.specs.Prelude.{Contains, ◌↔◌}
use Rattle.std.proofs.lemmas.List.{append-nil}
use Rattle.slotted_theory.specs.Nameless.{DTerm}
use Rattle.slotted_model.specs.Applied.{Applied, values}
use Rattle.slotted_model.specs.Classes.{IsFull, Canonical}
use Rattle.slotted_model.specs.Growth.{Extends}
use Rattle.slotted_model.specs.Correspondence.{identity}
use Rattle.slotted_model.specs.Find.{Entry, find_class, find}
use Rattle.slotted_model.specs.ProofList.{Equation, ProofEntry, reflexive, equation_of, equation_at, IsOver, asserted}
use Rattle.slotted_model.specs.Link.{CanEnter, found_equation, CanLink, IsLater, with_link, CanDrop, with_slots, reflexive_equation, with_new_entry}
use Rattle.slotted_model.specs.Sound.{Sound, United}
use Rattle.slotted_model.proofs.Represented.Growing.{Canonical-nil}
use Rattle.slotted_model.proofs.Finds.Entering.{entered-proved, entered-exact, entered-asserted, equation-last, longer-length}
use Rattle.slotted_model.proofs.Finds.Linking.{link-linked, link-exact, link-refines}
use Rattle.slotted_model.proofs.Finds.Uniting.{can_link, linked-alike}
use Rattle.slotted_model.proofs.Finds.Dropping.{drop-linked, drop-exact}
use Rattle.slotted_model.proofs.Finds.NewClasses.{proved-newer, asserted-newer, linked-newer, exact-newer, reflexive-proved}

-- the empty graph
pub nothing-sound : Sound [] [] []
nothing-sound = record {
  canonical = Canonical-nil;
  linked = record {
    entries = refl;
    in_range = λ i h. absurd (omega arith);
    maps = λ i h. absurd (omega arith);
    live = λ i h l. absurd (omega arith);
    ends = λ i h. absurd (omega arith);
    uses = λ i h s c. absurd (omega arith);
  };
  proved = record {
    over = λ p h. absurd (omega arith);
    steps = λ p h. absurd (omega arith);
    once = λ p q h k e. absurd (omega arith);
  };
  exact = record { in_range = λ i h. absurd (omega arith); equations = λ i h. absurd (omega arith) };
}

pub entered-sound : (nodes : List DTerm) (found : List Entry) (proofs : List ProofEntry) (entry : ProofEntry) → Sound nodes found proofs → CanEnter nodes proofs entry → Sound nodes found (proofs ++ entry ∷ [])
entered-sound nodes found proofs entry s can = record {
  canonical = s.canonical;
  linked = s.linked;
  proved = entered-proved nodes proofs entry s.proved can;
  exact = entered-exact nodes proofs entry found s.exact;
}

pub link-sound : (nodes : List DTerm) (found : List Entry) (proofs : List ProofEntry) (e : Equation) (proof moment : ℕ) → Sound nodes found proofs → CanLink nodes found e → IsLater found moment → proof < length proofs → equation_at proofs proof ≡ e → Sound nodes (with_link nodes found e proof moment) proofs
link-sound nodes found proofs e proof moment s can later h p = record {
  canonical = s.canonical;
  linked = link-linked nodes found s.linked e proof moment can later;
  proved = s.proved;
  exact = link-exact nodes found s.linked e proof moment can later proofs h p s.exact;
}

pub drop-sound : (nodes : List DTerm) (found : List Entry) (proofs : List ProofEntry) (c : ℕ) (slots : List ℕ) (proof : ℕ) → Sound nodes found proofs → CanDrop nodes found c slots → proof < length proofs → equation_at proofs proof ≡ record { left = c; right = c; pairs = identity slots } → Sound nodes (with_slots found c slots proof) proofs
drop-sound nodes found proofs c slots proof s can h p = record {
  canonical = s.canonical;
  linked = drop-linked nodes found s.linked c slots proof can;
  proved = s.proved;
  exact = drop-exact nodes found s.linked c slots proof can proofs h p s.exact;
}

-- a new class, with the entry that it equals itself
module _ (older newer : List DTerm) (found : List Entry) (proofs : List ProofEntry) (s : Sound older found proofs) (can : Canonical newer) (x : Extends older newer) (one : length newer ≡ suc (length older)) where
  abbrev entry : ProofEntry
  entry = record { equation = reflexive_equation newer (length older); step = reflexive }

  can_enter : CanEnter newer proofs entry
  can_enter =
      let h : length older < length newer = omega arith in
      let r = reflexive-proved newer (length older) h in
      record {
        over = r.0;
        proved = r.1;
        is_new = λ p l e.
            let o : IsOver older (equation_at proofs p) = s.proved.over p l in
            let m : (equation_at proofs p).left < length older = o.left in
            let same : (equation_at proofs p).left ≡ length older = ap (λ (y : Equation). y.left) e in
            omega arith;
      }

  pub new_class-sound : Sound newer (with_new_entry newer found (length proofs)) (proofs ++ entry ∷ [])
  new_class-sound = record {
    canonical = can;
    linked = linked-newer older newer x one found s.linked (length proofs);
    proved = entered-proved newer proofs entry (proved-newer older newer x proofs s.proved) can_enter;
    exact = exact-newer older newer x one found s.linked (length proofs) (proofs ++ entry ∷ []) (let l : length (proofs ++ entry ∷ []) ≡ suc (length proofs) = longer-length proofs entry in omega arith)
        (equation-last proofs entry) (entered-exact older proofs entry found s.exact);
  }

  pub new_class-asserted : asserted newer (proofs ++ entry ∷ []) ≡ asserted older proofs
  new_class-asserted = entered-asserted newer proofs entry ∙ (append-nil (asserted newer proofs) ∙ asserted-newer older newer x proofs s.proved.over)

-- a whole union
pub united : (nodes : List DTerm) (found : List Entry) (proofs : List ProofEntry) (entry : ProofEntry) (moment : ℕ) (a b : Applied) → Sound nodes found proofs → IsFull nodes a → IsFull nodes b → find_class found a.0 ≢ find_class found b.0 → ((x : ℕ) → Contains (values (find found a).1) x ↔ Contains (values (find found b).1) x) → entry.equation ≡ found_equation nodes found (equation_of a b) → CanEnter nodes proofs entry → IsLater found moment → United nodes found proofs entry moment a b
united nodes found proofs entry moment a b s fa fb differ names e can later =
    let c : CanLink nodes found (found_equation nodes found (equation_of a b)) = can_link nodes found s.linked a b fa fb differ (λ x. (names x).1) in
    let d : CanLink nodes found entry.equation = subst (CanLink nodes found) (sym e) c in
    let longer : Sound nodes found (proofs ++ entry ∷ []) = entered-sound nodes found proofs entry s can in
    record {
      sound = link-sound nodes found (proofs ++ entry ∷ []) entry.equation (length proofs) moment longer d later (let l : length (proofs ++ entry ∷ []) ≡ suc (length proofs) = longer-length proofs entry in omega arith) (equation-last proofs entry);
      refines = link-refines nodes found s.linked entry.equation (length proofs) moment d later;
      alike = subst (λ q. find (with_link nodes found q (length proofs) moment) a ≡ find (with_link nodes found q (length proofs) moment) b) (sym e) (linked-alike nodes found s.linked a b fa fb (length proofs) moment c later);
    }

-- Structural writes one after another: they extend a graph, enter what is asked for, and where progress has not changed nothing has.
use Rattle.std.proofs.Common.{◌≡◌, ℕ, ◌+◌, ◌<◌, ◌≤◌, List, ◌∷◌, [], ◌++◌, length, length-append, sym, ◌∙◌, ap, refl, subst, inl, inr, arith}
use Rattle.std.specs.Prelude.{◌⊎◌}
use Rattle.std.proofs.lemmas.Bool.{cases_lt}
use Rattle.slotted_theory.specs.Nameless.{DTerm}
use Rattle.slotted_model.specs.Applied.{Applied}
use Rattle.slotted_model.specs.Find.{Entry, find}
use Rattle.slotted_model.specs.Growth.{Extends}
use Rattle.slotted_model.specs.ProofList.{equation_at}
use Rattle.slotted_model.specs.State.{State}
use Rattle.slotted_model.specs.Rest.{IsValidIn, AtRest, size, lives_from, slots_from}
use Rattle.slotted_model.specs.Adding.{HasAdded, HasAsserted, IsExactAssertion}
use Rattle.slotted_model.proofs.Rebuilding.Adding.{adds as class-added}
use Rattle.slotted_model.proofs.Rebuilding.Asserting.{asserts as pair-asserted}
use Rattle.slotted_model.proofs.Rebuilding.Counting.{size-counts}
use Rattle.slotted_model.proofs.Rebuilding.EndsGrow.{assertion-exact}
use Rattle.slotted_model.proofs.Represented.Growing.{Extends-same}
use Rattle.std.proofs.lemmas.List.{append-nil}
use Rattle.slotted_model_rules.specs.Rules.{IsExtension, IsBetween, KeepsAll, Calls, no_call, adds, asserts, keeps, IsNewEntry, IsAskedFor, progress, Progress}
use Rattle.slotted_model_rules.proofs.Rules.Extending.{extension-same, extension-then, step-stays, adding-extends, adding-asserts_nothing, asserting-extends, asserting-enters, still-asserting}

pub keeping-extends : (g h : State) → KeepsAll g h → IsExtension g h
keeping-extends g h k = record {
  goes_on = k.same.goes_on;
  grows = k.grows;
  later = [];
  nodes = k.nodes ∙ sym (append-nil g.nodes);
  terms = subst (Extends g.nodes) (sym k.nodes) (Extends-same g.nodes);
}

module _ (A : State → Applied → Applied → Type 0) where
  pub calls-extend : {g h : State} → AtRest g → Calls A g h → AtRest h × IsExtension g h
  calls-extend {g} rest no_call = (rest, extension-same g rest.sane)
  calls-extend {g} {h} rest (adds {f = f} c new step more) =
      let has : HasAdded g c f = class-added g rest c new f step in
      let k = calls-extend has.rest more in
      (k.0, extension-then g f h rest.sane (adding-extends g rest c new f has step) k.1)
  calls-extend {g} {h} rest (asserts {f = f} a b fa fb asks step more) =
      let has : HasAsserted g a b f = pair-asserted g rest a b fa fb f step in
      let k = calls-extend has.rest more in
      (k.0, extension-then g f h rest.sane (asserting-extends g rest a b fa fb f has step) k.1)
  calls-extend {g} {h} rest (keeps {f = f} keep more) =
      let k = calls-extend keep.same.rest more in
      (k.0, extension-then g f h rest.sane (keeping-extends g f keep) k.1)

  -- a graph between f and h is between g and h
  pub between-later : (g f h m : State) → AtRest g → IsExtension g f → IsBetween f h m → IsBetween g h m
  between-later g f h m rest e b = record { rest = b.rest; after = extension-then g f m rest.sane e b.after; before = b.before }

  asked-later : (g f h : State) → AtRest g → IsExtension g f → (p : ℕ) → IsAskedFor A f h (equation_at h.proofs p) → IsAskedFor A g h (equation_at h.proofs p)
  asked-later g f h rest e p r = record {
    moment = r.moment;
    between = between-later g f h r.moment rest e r.between;
    left = r.left;
    right = r.right;
    asks = r.asks;
    equation = r.equation;
  }

  -- a new entry of h is new in f or after it
  pub new-when : (g f h : State) → IsExtension f h → (p : ℕ) → IsNewEntry g h p → IsNewEntry g f p ⊎ IsNewEntry f h p
  new-when g f h e p n = elim (cases_lt p (length f.proofs)) [
    | inl l ↦ inl (record { later = n.later; in_range = l; explicit = sym (step-stays f h e.grows p l) ∙ n.explicit })
    | inr l ↦ inr (record { later = l; in_range = n.in_range; explicit = n.explicit })
  ]

  pub calls-enter : {g h : State} → AtRest g → Calls A g h → (p : ℕ) → IsNewEntry g h p → IsAskedFor A g h (equation_at h.proofs p)
  calls-enter {g} rest no_call p n = let a = n.later in let b = n.in_range in absurd (omega arith)
  calls-enter {g} {h} rest (adds {f = f} c new step more) p n =
      let has : HasAdded g c f = class-added g rest c new f step in
      let k = calls-extend has.rest more in
      elim (new-when g f h k.1 p n) [
        | inl m ↦ absurd (adding-asserts_nothing g rest c new f has step p m)
        | inr m ↦ asked-later g f h rest (adding-extends g rest c new f has step) p (calls-enter has.rest more p m)
      ]
  calls-enter {g} {h} rest (asserts {f = f} a b fa fb asks step more) p n =
      let has : HasAsserted g a b f = pair-asserted g rest a b fa fb f step in
      let e : IsExtension g f = asserting-extends g rest a b fa fb f has step in
      let k = calls-extend has.rest more in
      elim (new-when g f h k.1 p n) [
        | inl m ↦ record {
          moment = g;
          between = record { rest = rest; after = extension-same g rest.sane; before = extension-then g f h rest.sane e k.1 };
          left = a;
          right = b;
          asks = asks;
          equation = asserting-enters g rest a b fa fb f has step p m ∙ sym (k.1.goes_on.proofs p m.in_range).1;
        }
        | inr m ↦ asked-later g f h rest e p (calls-enter has.rest more p m)
      ]
  calls-enter {g} {h} rest (keeps {f = f} keep more) p n =
      let k = calls-extend keep.same.rest more in
      elim (new-when g f h k.1 p n) [
        | inl m ↦ let l : p < length g.proofs = keep.asserts_nothing p m.in_range m.explicit in let q = m.later in absurd (omega arith)
        | inr m ↦ asked-later g f h rest (keeping-extends g f keep) p (calls-enter keep.same.rest more p m)
      ]

  classes-grow : {g h : State} → IsExtension g h → length g.nodes ≤ length h.nodes
  classes-grow {g} {h} e = let l : length h.nodes ≡ length g.nodes + length e.later = ap length e.nodes ∙ length-append g.nodes e.later in omega arith

  -- with a class more, the classes are not as many
  more-classes : (g f h : State) (c : DTerm) → f.nodes ≡ g.nodes ++ c ∷ [] → IsExtension f h → length h.nodes ≡ length g.nodes → ⊥
  more-classes g f h c nodes e same =
      let l : length f.nodes ≡ length g.nodes + 1 = ap length nodes ∙ length-append g.nodes (c ∷ []) in
      let m : length f.nodes ≤ length h.nodes = classes-grow e in
      omega arith

  pub size-of : (g : State) → size g ≡ lives_from 0 g.found + slots_from 0 g.found
  size-of g = size-counts 0 g.found

  slots-of : (g h : State) → size h ≡ size g → lives_from 0 h.found ≡ lives_from 0 g.found → slots_from 0 h.found ≡ slots_from 0 g.found
  slots-of g h e f =
      let a : size g ≡ lives_from 0 g.found + slots_from 0 g.found = size-of g in
      let b : size h ≡ lives_from 0 h.found + slots_from 0 h.found = size-of h in
      omega arith

  -- no class is lost, and while there is none more no count rises
  pub calls-counts : {g h : State} → AtRest g → Calls A g h → length h.nodes ≡ length g.nodes →
      (lives_from 0 h.found ≤ lives_from 0 g.found) × (lives_from 0 h.found ≡ lives_from 0 g.found → slots_from 0 h.found ≤ slots_from 0 g.found) × (size h ≤ size g)
  calls-counts rest no_call same = (omega arith, λ e. omega arith, omega arith)
  calls-counts {g} {h} rest (adds {f = f} c new step more) same =
      let has : HasAdded g c f = class-added g rest c new f step in
      absurd (more-classes g f h c has.nodes (calls-extend has.rest more).1 same)
  calls-counts {g} {h} rest (asserts {f = f} a b fa fb asks step more) same =
      let has : HasAsserted g a b f = pair-asserted g rest a b fa fb f step in
      let exact : IsExactAssertion g a b f = assertion-exact g rest a b fa fb f step in
      let k = calls-counts has.rest more (same ∙ sym (ap length has.same_nodes)) in
      let l : lives_from 0 h.found ≤ lives_from 0 f.found = k.0 in
      let m : lives_from 0 f.found ≤ lives_from 0 g.found = exact.lives in
      let s : size h ≤ size f = k.2 in
      let t : size f ≤ size g = exact.smaller in (
        omega arith,
        λ e.
            let x : slots_from 0 h.found ≤ slots_from 0 f.found = k.1 (omega arith) in
            let y : slots_from 0 f.found ≤ slots_from 0 g.found = exact.slots (omega arith) in
            omega arith,
        omega arith,
      )
  calls-counts {g} {h} rest (keeps {f = f} keep more) same =
      let k = calls-counts keep.same.rest more (same ∙ sym (ap length keep.nodes)) in
      let l : lives_from 0 h.found ≤ lives_from 0 f.found = k.0 in
      let m : lives_from 0 f.found ≡ lives_from 0 g.found = keep.same_lives in
      let x : slots_from 0 f.found ≡ slots_from 0 g.found = slots-of g f keep.same.same_size m in
      let s : size h ≤ size f = k.2 in
      let t : size f ≡ size g = keep.same.same_size in
      (omega arith, λ e. let y : slots_from 0 h.found ≤ slots_from 0 f.found = k.1 (omega arith) in omega arith, omega arith)

  pub calls-classes : {g h : State} → AtRest g → Calls A g h → length g.nodes ≤ length h.nodes
  calls-classes rest calls = classes-grow (calls-extend rest calls).1

  -- where there is no class more, and the size is the same, each id finds what it found
  no-change : {g h : State} → AtRest g → Calls A g h → length h.nodes ≡ length g.nodes → size h ≡ size g →
      (h.nodes ≡ g.nodes) × ((a : Applied) → IsValidIn g a → find h.found a ≡ find g.found a)
  no-change rest no_call same size_same = (refl, λ a v. refl)
  no-change {g} {h} rest (adds {f = f} c new step more) same size_same =
      let has : HasAdded g c f = class-added g rest c new f step in
      absurd (more-classes g f h c has.nodes (calls-extend has.rest more).1 same)
  no-change {g} {h} rest (asserts {f = f} a b fa fb asks step more) same size_same =
      let has : HasAsserted g a b f = pair-asserted g rest a b fa fb f step in
      let e : length h.nodes ≡ length f.nodes = same ∙ sym (ap length has.same_nodes) in
      let s : size h ≤ size f = (calls-counts has.rest more e).2 in
      let t : size f ≤ size g = (assertion-exact g rest a b fa fb f step).smaller in
      let later : size h ≡ size f = omega arith in
      let now : size f ≡ size g = omega arith in
      let k = no-change has.rest more e later in
      let found : f.found ≡ g.found = still-asserting g rest a b fa fb f step now in
      (k.0 ∙ has.same_nodes, λ x v. k.1 x (has.goes_on.finds x v).0 ∙ ap (λ (es : List Entry). find es x) found)
  no-change {g} {h} rest (keeps {f = f} keep more) same size_same =
      let k = no-change keep.same.rest more (same ∙ sym (ap length keep.nodes)) (size_same ∙ sym keep.same.same_size) in
      (k.0 ∙ keep.nodes, λ x v. k.1 x (keep.same.goes_on.finds x v).0 ∙ keep.same.finds x v)

  pub no-progress : (g h : State) → AtRest g → Calls A g h → progress h ≡ progress g →
      (h.nodes ≡ g.nodes) × ((a : Applied) → IsValidIn g a → find h.found a ≡ find g.found a)
  no-progress g h rest calls e =
      let l : lives_from 0 h.found ≡ lives_from 0 g.found = ap (λ (p : Progress). p.live_classes) e in
      let s : slots_from 0 h.found ≡ slots_from 0 g.found = ap (λ (p : Progress). p.slots) e in
      let a : size g ≡ lives_from 0 g.found + slots_from 0 g.found = size-of g in
      let b : size h ≡ lives_from 0 h.found + slots_from 0 h.found = size-of h in
      no-change rest calls (ap (λ (p : Progress). p.classes) e) (omega arith)

-- one list of calls after another
pub calls-then : (A : State → Applied → Applied → Type 0) → {g f h : State} → Calls A g f → Calls A f h → Calls A g h
calls-then A no_call b = b
calls-then A (adds c new step a) b = adds c new step (calls-then A a b)
calls-then A (asserts x y fx fy asks step a) b = asserts x y fx fy asks step (calls-then A a b)
calls-then A (keeps k a) b = keeps k (calls-then A a b)

-- calls for which less is asked are calls for which more is
pub calls-more : (A B : State → Applied → Applied → Type 0) → ((m : State) (x y : Applied) → A m x y → B m x y) → {g h : State} → Calls A g h → Calls B g h
calls-more A B more no_call = no_call
calls-more A B more (adds c new step a) = adds c new step (calls-more A B more a)
calls-more A B more (asserts {g = g} x y fx fy asks step a) = asserts x y fx fy (more g x y asks) step (calls-more A B more a)
calls-more A B more (keeps k a) = keeps k (calls-more A B more a)

-- A canonical node with the names of an id put in is over full ids, as large as it was, and known where those names are.
use Rattle.std.proofs.Common.{◌≡◌, ◌<◌, ◌≤◌, ◌+◌, ℕ, suc, List, [], ◌∷◌, ◌++◌, length, cond, not, slice_index_or, sym, ◌∙◌, ap, refl, subst, arith, inr}
use Rattle.std.specs.Prelude.{All, IsTrue, Result, Ok, Err, IfOk, IsErrOf}
use Rattle.std.proofs.lemmas.List.Elements.{All-append}
use Rattle.slotted_lists.proofs.Members.{In-take, In-drop}
use Rattle.slotted_theory.specs.Nameless.{DArgs, DTerm, stop, place, sub, scope, lift, moved_args, moved}
use Rattle.slotted_theory.specs.FiniteMaps.{filled}
use Rattle.slotted_theory.specs.Term.{Term}
use Rattle.slotted_slots.specs.Table.{Table, KnowsMore, TakesAtMost, is_known, slot_limit, unknown_names, AllKnown}
use Rattle.slotted_slots.proofs.SlotsTaken.{at_most_known, fresh_goes_on, lacks_known}
use Rattle.slotted_nodes.specs.Form.{Form, children, child_names, child_place, width}
use Rattle.slotted_languages.specs.Children.{binders}
use Rattle.slotted_languages.specs.Filled.{term_of}
use Rattle.slotted_languages.specs.NodeTerm.{nameless_node}
use Rattle.slotted_languages.specs.Shape.{Fits}
use Rattle.slotted_languages.specs.Fresh.{RunsOut as RunsOutBeside}
use Rattle.slotted_model.specs.Applied.{Applied}
use Rattle.slotted_model.specs.Classes.{canonical_node, IsFull, Canonical}
use Rattle.slotted_terms.specs.Valid.{IsValidTerm}
use Rattle.slotted_operations.specs.Canonical.{args_count, place_count}
use Rattle.slotted_languages.specs.Beside.{IsBeside}
use Rattle.slotted_operations.specs.Graph.{RunsOut}
use Rattle.slotted_operations.specs.Nodes.{child_ids}
use Rattle.slotted_operations.proofs.Ids.CanonicalTerms.{children-below, places-counted}
use Rattle.slotted_classes.proofs.ChildIds.{length-ids}
use Rattle.slotted_classes.proofs.NameMaps.{In-at, at_In}
use Rattle.slotted_operations.proofs.TermsOverIds.ValidTerms.{valid_term}

-- the children are full
pub children-full : (nodes : List DTerm) → Canonical nodes → (a : Applied) → IsFull nodes a → (f : Form) → Fits f → nameless_node f ≡ moved (filled a.1) (canonical_node nodes a.0) → All (IsFull nodes) (child_ids f)
children-full nodes can a full f fits is k d lt = (children-below nodes can a full f fits is k d (omega (arith, lt, length-ids f.tree f.names))).1

-- other names, as many places
pub args_count-moved : (ρ : ℕ → ℕ) (d : DArgs) → args_count (moved_args ρ d) ≡ args_count d
args_count-moved ρ stop = refl
args_count-moved ρ (place x rest) = λ i. 1 + args_count-moved ρ rest i
args_count-moved ρ (sub op payloads args rest) = λ i. args_count-moved ρ args i + args_count-moved ρ rest i
args_count-moved ρ (scope inner rest) = λ i. 1 + args_count-moved (lift ρ) inner i + args_count-moved ρ rest i

-- a node with other names put in has as many places
pub given-size : (ρ : ℕ → ℕ) (d : DTerm) (f : Form) → Fits f → nameless_node f ≡ moved ρ d → length f.names ≡ place_count d
given-size ρ d f fits is = sym (places-counted f fits) ∙ ap place_count is ∙ args_count-moved ρ d.args

-- where all names are known none is unknown
none_unknown : (t : Table) (xs : List ℕ) → AllKnown t xs → unknown_names t xs ≡ []
none_unknown t [] h = refl
none_unknown t (x ∷ xs) h =
    ap (λ b. cond (not b) (x ∷ unknown_names t xs) (unknown_names t xs)) (h 0 x (omega arith))
    ∙ none_unknown t xs (λ k d l. h (suc k) d (omega (arith, l)))

-- where all names are known, as many slots are made as there are binders at most
module _ (t u : Table) (f : Form) (vs : List ℕ) (n : ℕ) (count : binders f ≡ n) (own : AllKnown t f.names) (given : AllKnown t vs) where
  known : unknown_names t (vs ++ f.names) ≡ []
  known = none_unknown t (vs ++ f.names) (All-append (λ s. IsTrue (is_known t s)) vs f.names given own)

  pub made-by_binders : TakesAtMost (binders f) (vs ++ f.names) t u → u.fresh ≤ t.fresh + n
  made-by_binders taken = omega (arith, count, at_most_known (binders f) (vs ++ f.names) t u known taken)

  -- and where they ran out, fewer were left
  pub lacked-by_binders : KnowsMore t u → RunsOutBeside (binders f) (vs ++ f.names) t u → RunsOut n t u
  lacked-by_binders more out =
      let fits : t.fresh ≤ slot_limit = subst (λ k. t.fresh ≤ k) out.0 (fresh_goes_on t u more) in
      record {
        lacks = subst (λ k. slot_limit < t.fresh + k) count (lacks_known (binders f) (vs ++ f.names) t known fits out.1);
        used = out.0;
      }

-- the names of a child are names of the node
pub child_names-known : (P : ℕ → Type 0) (f : Form) (k : ℕ) → All P f.names → All P (child_names f k)
child_names-known P f k all i d l =
    let x = slice_index_or (child_names f k) i d in
    at_In P f.names all x (In-drop (child_place f.tree k) f.names x (In-take (width f.tree k) _ x (In-at (child_names f k) i d l)))

-- over valid terms a node with known names is a valid term, whatever its children were before
pub valid-beside : (t : Table) (f h : Form) (us : List Term) → Fits f → IsBeside f h → length us ≡ length (children f.tree) → AllKnown t f.names → All (λ (u : Term). 0 < u.op) us → All (IsValidTerm t) us → IsValidTerm t (term_of h us)
valid-beside t f h us fits beside n known ops all =
    let same : term_of f us ≡ term_of h us = λ i. record { op = suc (sym beside.operator i); payloads = sym beside.payloads i; args = sym (beside.outline us n) i } in
    subst (IsValidTerm t) same (valid_term t f us fits n (λ i l. inr (known i 0 l)) (λ j d l. (ops j d l, all j d l)))

-- a call that refused gave nothing
pub err-no_ok : {A E : Type 0} (r : Result A E) (e : E) (P : A → Type 0) → IsErrOf r e → IfOk r P
err-no_ok (Ok x) e P h = cc
err-no_ok (Err x) e P h = tt

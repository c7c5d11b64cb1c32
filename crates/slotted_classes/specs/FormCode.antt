-- Forms as data: a code by which they are told apart, and a test for equality.
use Rattle.std.specs.Prelude.{◌≡◌, ℕ, List, [], ◌∷◌, ◌++◌, Bool, true, false, ◌&&◌, nat_eq, refl, Option, Some, None}
use Rattle.std.specs.Coded.{Coded, code_by, coded×, coded_ℕ, coded_list, coded_option}
use Rattle.std.specs.Bool.{Decides}
use Rattle.std.specs.Cmp.{unsigned_Decides}
use Rattle.std.specs.Cmp.Lexicographic.{pointwise}
use Rattle.std.proofs.Common.{ap, ◌∙◌, sym, append_assoc}
use Rattle.std.proofs.lemmas.List.{append-nil}
use Rattle.std.proofs.lemmas.Slice.Eq.{slice_eq-Decides}
use Rattle.slotted_nodes.specs.Form.{Form, Tree, leaf, own, child, bind}
use Rattle.slotted_nodes.specs.Equal.{form_ext, tree_child, tree_bind}

-- one node of a tree: a leaf, an own name, a binder or a child
abbrev pub Node : Type 0
Node = Option (Option (Option (ℕ × List ℕ)))

-- a tree, its nodes before their parts
abbrev pub listed : Tree → List Node
listed leaf = None ∷ []
listed (own r) = Some None ∷ listed r
listed (bind u r) = Some (Some None) ∷ listed u ++ listed r
listed (child i ks r) = Some (Some (Some (i, ks))) ∷ listed r

abbrev pub built : Node → List Tree → List Tree
built None ts = leaf ∷ ts
built (Some n) [] = []
built (Some None) (r ∷ ts) = own r ∷ ts
built (Some (Some None)) (u ∷ []) = []
built (Some (Some None)) (u ∷ r ∷ ts) = bind u r ∷ ts
built (Some (Some (Some p))) (r ∷ ts) = child p.0 p.1 r ∷ ts

abbrev pub read_back : List Node → List Tree
read_back [] = []
read_back (w ∷ ws) = built w (read_back ws)

abbrev pub first_tree : List Tree → Tree
first_tree [] = leaf
first_tree (t ∷ ts) = t

pub read_back-listed : (t : Tree) (ws : List Node) → read_back (listed t ++ ws) ≡ t ∷ read_back ws
read_back-listed leaf ws = refl
read_back-listed (own r) ws = ap (built (Some None)) (read_back-listed r ws)
read_back-listed (child i ks r) ws = ap (built (Some (Some (Some (i, ks))))) (read_back-listed r ws)
read_back-listed (bind u r) ws =
    ap (built (Some (Some None))) (ap read_back (append_assoc (listed u) (listed r) ws) ∙ read_back-listed u (listed r ++ ws) ∙ ap (λ ts. u ∷ ts) (read_back-listed r ws))

abbrev pub tree_code : Coded Tree
tree_code =
    code_by (List Node) (coded_list (coded_option (coded_option (coded_option (coded× coded_ℕ (coded_list coded_ℕ)))))) listed (λ ws. first_tree (read_back ws))
    (λ t. ap (λ ws. first_tree (read_back ws)) (sym (append-nil (listed t))) ∙ ap first_tree (read_back-listed t []))

abbrev pub form_code : Coded Form
form_code =
    code_by (ℕ × (List (List ℕ) × (Tree × List ℕ))) (coded× coded_ℕ (coded× (coded_list (coded_list coded_ℕ)) (coded× tree_code (coded_list coded_ℕ))))
    (λ f. (f.operator, (f.payloads, (f.tree, f.names)))) (λ p. record { operator = p.0; payloads = p.1.0; tree = p.1.1.0; names = p.1.1.1 }) (λ _. refl)

abbrev pub tree_is : Tree → Tree → Bool
tree_is leaf leaf = true
tree_is (own r) (own t) = tree_is r t
tree_is (child i ks r) (child j ls t) = nat_eq i j && (pointwise nat_eq ks ls && tree_is r t)
tree_is (bind u r) (bind v t) = tree_is u v && tree_is r t
tree_is r t = false

abbrev pub form_is : Form → Form → Bool
form_is f g = nat_eq f.operator g.operator && (pointwise (pointwise nat_eq) f.payloads g.payloads && (tree_is f.tree g.tree && pointwise nat_eq f.names g.names))

both_Decides : (d e : Bool) {P Q R : Type 0} → Decides d P → Decides e Q → (P × Q → R) → (R → P × Q) → Decides (d && e) R
both_Decides true true p q f g = (λ h. f (p.0 refl, q.0 refl), λ r. refl)
both_Decides true false p q f g = (λ h. cc, λ r. q.1 (g r).1)
both_Decides false e p q f g = (λ h. cc, λ r. p.1 (g r).0)

list_Decides : {A : Type 0} {E : A → A → Bool} → ((a b : A) → Decides (E a b) (a ≡ b)) → (xs ys : List A) →
    Decides (pointwise E xs ys) (xs ≡ ys)
list_Decides {A} {E} d xs ys = slice_eq-Decides d xs ys (pointwise E xs ys) refl

pub tree_Decides : (r t : Tree) → Decides (tree_is r t) (r ≡ t)
tree_Decides leaf leaf = (λ _. refl, λ _. refl)
tree_Decides (own r) (own t) = (λ h. ap own ((tree_Decides r t).0 h), λ e. (tree_Decides r t).1 cc)
tree_Decides (child i ks r) (child j ls t) = both_Decides _ _ (unsigned_Decides i j) (both_Decides _ _ (list_Decides unsigned_Decides ks ls) (tree_Decides r t) (λ h. h) (λ h. h)) (λ h. let a = h.0 in let b = h.1.0 in let c = h.1.1 in cc) (λ e. let p = tree_child i j ks ls r t e in (p.0, (p.1, p.2)))
tree_Decides (bind u r) (bind v t) = both_Decides _ _ (tree_Decides u v) (tree_Decides r t) (λ h. let a = h.0 in let b = h.1 in cc) (λ e. tree_bind u v r t e)
tree_Decides r t = (λ h. cc, λ e. cc)

pub form_Decides : (f g : Form) → Decides (form_is f g) (f ≡ g)
form_Decides f g =
    both_Decides _ _ (unsigned_Decides f.operator g.operator)
    (both_Decides _ _ (list_Decides (list_Decides unsigned_Decides) f.payloads g.payloads)
    (both_Decides _ _ (tree_Decides f.tree g.tree) (list_Decides unsigned_Decides f.names g.names) (λ h. h) (λ h. h)) (λ h. h) (λ h. h))
    (λ h. form_ext f g h.0 h.1.0 h.1.1.0 h.1.1.1)
    (λ e. (ap (λ f. f.operator) e, (ap (λ f. f.payloads) e, (ap (λ f. f.tree) e, ap (λ f. f.names) e))))

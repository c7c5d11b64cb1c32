-- How the nodes of SymbolLang are written if only their terms are known.
--     own_names args     the names and binders among arguments of a term, from the left
--     woven ks xs        slots and children of these kinds, with these names for the slots
--     symbol_written u   what a term is written as
use Rattle.std.specs.Prelude.{◌≡◌, ℕ, suc, zero, List, [], ◌∷◌, ◌++◌, length, map, take, drop, slice_index, slice_index_or, Option, None, refl}
use Rattle.std.proofs.Common.{ap, ◌∙◌, sym, arith}
use Rattle.std.proofs.lemmas.List.{append-nil, length-map, drop_at, take-take}
use Rattle.slotted_theory.specs.Term.{Args, Term, done, name, child, bind}
use Rattle.slotted_slots.specs.Maps.{keys, values}
use Rattle.slotted_slots.specs.Syntax.{Element, text, applied}
use Rattle.slotted_slots.specs.Syntax.{name as slot}
use Rattle.slotted_languages.specs.Filled.{term_of, filled, children_args}
use Rattle.slotted_nodes.specs.Form.{Tree, leaf, own, scopes, children}
use Rattle.slotted_nodes.specs.Form.{child as id, bind as binder}
use Rattle.slotted_nodes.specs.ReadFrom.{slots_of, applied_count}
use Rattle.slotted_patterns.specs.Shown.{total_width}
use Rattle.slotted_symbols.specs.Arguments.{elements, kinds, tree_of, with_slot}
use Rattle.slotted_symbols.specs.SymbolForms.{symbol_form, symbol_shown}
use Rattle.slotted_symbols.specs.Trees.{count-tree_of}
use Rattle.slotted_symbols.specs.declared.argument.Argument.{Argument}
use Rattle.slotted_symbols.specs.declared.argument.Argument.TheVariants.{Slot, Child}
use Rattle.slotted_symbols.specs.declared.symbol_lang.SymbolLang.{SymbolLang}
use Rattle.slotted_terms.specs.Shown.{IsWrittenAs, without_id}

abbrev pub own_names : Args → List ℕ
own_names done = []
own_names (name x rest) = x ∷ own_names rest
own_names (child op payloads args rest) = own_names rest
own_names (bind x inner rest) = x ∷ (own_names inner ++ own_names rest)

abbrev pub woven : List ℕ → List ℕ → List Element
woven [] xs = []
woven (zero ∷ ks) xs = slot (slice_index xs 0) ∷ woven ks (drop 1 xs)
woven (suc k ∷ ks) xs = applied 0 [] ∷ woven ks xs

abbrev pub symbol_written : Term → List Element
symbol_written u = text (slice_index_or u.payloads 0 []) ∷ woven (slice_index_or u.payloads 1 []) (own_names u.args)

-- the slots among elements
abbrev pub own_slots : List Element → List ℕ
own_slots [] = []
own_slots (text w ∷ es) = own_slots es
own_slots (applied i m ∷ es) = own_slots es
own_slots (slot x ∷ es) = x ∷ own_slots es

-- terms that stand for children bring no names
own-children : (ts : List Term) → own_names (children_args ts) ≡ []
own-children [] = refl
own-children (t ∷ ts) = own-children ts

own-leaf : (xs : List ℕ) (ts : List Term) → own_names (filled leaf xs ts) ≡ []
own-leaf xs [] = refl
own-leaf xs (t ∷ ts) = own-children ts

own-child : (i : ℕ) (ks : List ℕ) (r : Tree) (xs : List ℕ) (ts : List Term) →
    own_names (filled (id i ks r) xs ts) ≡ own_names (filled r (drop (length ks) xs) (drop 1 ts))
own-child i ks r xs [] = refl
own-child i ks r xs (t ∷ ts) = refl

-- names behind the first one
first_of_some : (n : ℕ) (xs : List ℕ) → slice_index (take (suc n) xs) 0 ≡ slice_index xs 0
first_of_some n [] = refl
first_of_some n (x ∷ xs) = refl

rest_of_some : (n : ℕ) (xs : List ℕ) → take n (drop 1 (take (suc n) xs)) ≡ take n (drop 1 xs)
rest_of_some n [] = refl
rest_of_some n (x ∷ xs) = take-take n n xs (omega arith)

drop_one_more : (n : ℕ) (xs : List ℕ) → drop (suc n) xs ≡ drop n (drop 1 xs)
drop_one_more zero [] = refl
drop_one_more (suc n) [] = refl
drop_one_more n (x ∷ xs) = refl

-- the names of what stands under two binders
binder_names : (u : Tree) (xs : List ℕ) (ts : List Term) →
    own_names (filled (binder u leaf) (take (suc (length (scopes u))) xs) (take (length (children u)) ts)) ≡
    slice_index xs 0 ∷ own_names (filled u (take (length (scopes u)) (drop 1 xs)) (take (length (children u)) ts))
binder_names u xs ts =
    let l = length (scopes u) in
    let c = length (children u) in
    let ys = take (suc l) xs in
    let vs = take c ts in
    ap (λ zs. slice_index ys 0 ∷ (own_names (filled u (take l (drop 1 ys)) (take c vs)) ++ zs)) (own-leaf (drop l (drop 1 ys)) (drop c vs))
    ∙ (ap (λ zs. slice_index ys 0 ∷ zs) (append-nil (own_names (filled u (take l (drop 1 ys)) (take c vs))))
    ∙ (ap (λ z. z ∷ own_names (filled u (take l (drop 1 ys)) (take c vs))) (first_of_some l xs)
    ∙ (ap (λ zs. slice_index xs 0 ∷ own_names (filled u zs (take c vs))) (rest_of_some l xs)
    ∙ ap (λ us. slice_index xs 0 ∷ own_names (filled u (take l (drop 1 xs)) us)) (take-take c c ts (omega arith)))))

-- one more slot in front is one more name in front
own-with_slot : (t : Tree) (x : ℕ) (xs : List ℕ) (ts : List Term) →
    own_names (filled (with_slot t) (x ∷ xs) ts) ≡ x ∷ own_names (filled t xs ts)
own-with_slot leaf x xs ts = refl
own-with_slot (own r) x xs ts = refl
own-with_slot (id i ks r) x xs ts =
    let s : List (Option ℕ) = scopes (id i ks leaf) in
    let none : own_names (filled (id i ks leaf) (take (length s) xs) (take 1 ts)) ≡ [] = own-child i ks leaf (take (length s) xs) (take 1 ts) ∙ own-leaf (drop (length ks) (take (length s) xs)) (drop 1 (take 1 ts)) in
    let l : length s ≡ length ks = ap length (append-nil (map {B = Option ℕ} (λ _. None) ks)) ∙ length-map ks (λ _. None) in
    ap (λ ys. x ∷ (ys ++ own_names (filled r (drop (length s) xs) (drop 1 ts)))) none
    ∙ (ap (λ n. x ∷ own_names (filled r (drop n xs) (drop 1 ts))) l
    ∙ ap (λ ys. x ∷ ys) (sym (own-child i ks r xs ts)))
own-with_slot (binder u r) x xs ts =
    let under : List (Option ℕ) → List (ℕ × List ℕ) → List ℕ =
    (λ s cs. x ∷ (own_names (filled (binder u leaf) (take (suc (length s)) xs) (take (length cs) ts)) ++ own_names (filled r (drop (suc (length s)) xs) (drop (length cs) ts)))) in
    let l = length (scopes u) in
    let c = length (children u) in
    (λ j. under (append-nil (scopes u) j) (append-nil (children u) j))
    ∙ (ap (λ ys. x ∷ (ys ++ own_names (filled r (drop (suc l) xs) (drop c ts)))) (binder_names u xs ts)
    ∙ ap (λ ys. x ∷ (slice_index xs 0 ∷ (own_names (filled u (take l (drop 1 xs)) (take c ts)) ++ own_names (filled r ys (drop c ts))))) (drop_one_more l xs))

-- the names of a node over whatever children are its slots
own_filled : (args : List Argument) (ts : List Term) →
    own_names (filled (tree_of (elements args)) (slots_of (elements args)) ts) ≡ own_slots (elements args)
own_filled [] ts = own-leaf [] ts
own_filled (Slot x ∷ args) ts =
    own-with_slot (tree_of (elements args)) x (slots_of (elements args)) ts ∙ ap (λ ys. x ∷ ys) (own_filled args ts)
own_filled (Child a ∷ args) ts =
    let len : length (values a.m) ≡ length (keys a.m) = length-map a.m (λ p. p.1) ∙ sym (length-map a.m (λ p. p.0)) in
    own-child a.id.0 (keys a.m) (tree_of (elements args)) (values a.m ++ slots_of (elements args)) ts
    ∙ (ap (λ ys. own_names (filled (tree_of (elements args)) ys (drop 1 ts))) (drop_at (values a.m) (slots_of (elements args)) (length (keys a.m)) len)
    ∙ own_filled args (drop 1 ts))

-- the elements are woven of their kinds and their slots
woven-kinds : (args : List Argument) → map without_id (elements args) ≡ map without_id (woven (kinds (elements args)) (own_slots (elements args)))
woven-kinds [] = refl
woven-kinds (Slot x ∷ args) = ap (λ es. slot x ∷ es) (woven-kinds args)
woven-kinds (Child a ∷ args) = ap (λ es. applied 0 [] ∷ es) (woven-kinds args)

widths : (args : List Argument) → total_width (elements args) ≡ applied_count (elements args)
widths [] = refl
widths (Slot x ∷ args) = omega (arith, widths args)
widths (Child a ∷ args) = omega (arith, widths args)

pub symbol_written_as : (a : SymbolLang) (us : List Term) →
    IsWrittenAs (symbol_form a) (symbol_shown a) (symbol_written (term_of (symbol_form a) us))
symbol_written_as a us =
    let args : List Argument = a.arguments in
    record {
      same = ap (λ es. text a.word ∷ es) (woven-kinds args ∙ ap (λ xs. map without_id (woven (kinds (elements args)) xs)) (sym (own_filled args us)));
      count = omega (arith, widths args, count-tree_of (elements args));
    }

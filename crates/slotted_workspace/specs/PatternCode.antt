-- How trees of patterns are told apart, for a struct whose value holds them.
use Rattle.std.specs.Prelude.{◌≡◌, ℕ, List, refl}
use Rattle.std.specs.Coded.{Coded, coded_ℕ, coded_list}
use Rattle.std.proofs.Common.{ap}
use base.Stored.{Gv, gnil, gnum, gcons}
use Rattle.slotted_classes.specs.FormCode.{form_code}
use Rattle.slotted_patterns.specs.Tree.{PatternTree, PatternRow, enode, pvar, substitution, no_more, one_more}

abbrev name_code : Coded (List ℕ)
name_code = coded_list coded_ℕ

-- a tree or a row as a tree of pairs
abbrev mutual
  pub tree_gv : PatternTree → Gv
  tree_gv (enode form children) = gcons gnil (gcons (form_code.code form) (row_gv children))
  tree_gv (pvar name) = gcons (gnum 0) (name_code.code name)
  tree_gv (substitution body place value) = gcons (gnum 1) (gcons (tree_gv body) (gcons (tree_gv place) (tree_gv value)))

  pub row_gv : PatternRow → Gv
  row_gv no_more = gnil
  row_gv (one_more pattern rest) = gcons (tree_gv pattern) (row_gv rest)

mutual
  pub tree_gv-inj : (p q : PatternTree) → tree_gv p ≡ tree_gv q → p ≡ q
  tree_gv-inj (enode f r) (enode g s) e =
      let forms : form_code.code f ≡ form_code.code g = cc in
      let rows : row_gv r ≡ row_gv s = cc in
      λ i. enode (form_code.inj f g forms i) (row_gv-inj r s rows i)
  tree_gv-inj (enode f r) (pvar name) e = cc
  tree_gv-inj (enode f r) (substitution b x v) e = cc
  tree_gv-inj (pvar name) (enode g s) e = cc
  tree_gv-inj (pvar name) (pvar other) e =
      let names : name_code.code name ≡ name_code.code other = cc in
      ap pvar (name_code.inj name other names)
  tree_gv-inj (pvar name) (substitution b x v) e = cc
  tree_gv-inj (substitution b x v) (enode g s) e = cc
  tree_gv-inj (substitution b x v) (pvar name) e = cc
  tree_gv-inj (substitution b x v) (substitution c y w) e =
      let bodies : tree_gv b ≡ tree_gv c = cc in
      let places : tree_gv x ≡ tree_gv y = cc in
      let values : tree_gv v ≡ tree_gv w = cc in
      λ i. substitution (tree_gv-inj b c bodies i) (tree_gv-inj x y places i) (tree_gv-inj v w values i)

  pub row_gv-inj : (r s : PatternRow) → row_gv r ≡ row_gv s → r ≡ s
  row_gv-inj no_more no_more e = refl
  row_gv-inj no_more (one_more p s) e = cc
  row_gv-inj (one_more p r) no_more e = cc
  row_gv-inj (one_more p r) (one_more q s) e =
      let firsts : tree_gv p ≡ tree_gv q = cc in
      let rests : row_gv r ≡ row_gv s = cc in
      λ i. one_more (tree_gv-inj p q firsts i) (row_gv-inj r s rests i)

abbrev pub pattern_code : Coded PatternTree
pattern_code = record { code = tree_gv; inj = tree_gv-inj }

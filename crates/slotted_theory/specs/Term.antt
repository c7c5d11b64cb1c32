-- Terms with names and binders.
--     Args          a list of arguments: a name, a child with its own arguments, or a bound name with the arguments under it
--     Term          an operator, payloads, each a list of numbers, and arguments
--     term_size     a number above that of each child, for a recursion that ends
--     term_code     how terms are told apart, for a struct whose value is a term
use Rattle.std.specs.Prelude.{◌≡◌, ℕ, ◌+◌, List, [], ◌∷◌, refl}
use Rattle.std.specs.Coded.{Coded, code_by, coded×, coded_ℕ, coded_list}
use Rattle.std.proofs.Common.{sym, ◌∙◌, ap}
use base.Stored.{Gv, gnil, gnum, gcons, num}

-- a list of arguments
pub data Args : Type 0 where
  done : Args
  name : (x : ℕ) (rest : Args) → Args
  child : (op : ℕ) (payloads : List (List ℕ)) (args rest : Args) → Args
  bind : (x : ℕ) (inner rest : Args) → Args
  deriving Discrete as Args-discrete
  deriving IsSet as Args-set

-- a term, which is its uppermost operator with what stands under it
pub record Term : Type 0 where
  pub op : ℕ
  pub payloads : List (List ℕ)
  pub args : Args

-- how many names, children and binders the arguments have, and one for each list's end
abbrev pub args_size : Args → ℕ
args_size done = 1
args_size (name x rest) = 1 + args_size rest
args_size (child op payloads args rest) = 1 + args_size args + args_size rest
args_size (bind x inner rest) = 1 + args_size inner + args_size rest

-- the same of a term
abbrev pub term_size : Term → ℕ
term_size t = args_size t.args

-- a list of numbers as a tree of pairs, and back
abbrev numbers : List ℕ → Gv
numbers [] = gnil
numbers (n ∷ ns) = gcons (gnum n) (numbers ns)

abbrev from_numbers : Gv → List ℕ
from_numbers gnil = []
from_numbers (gnum n) = []
from_numbers (gcons a b) = num a ∷ from_numbers b

from_numbers-numbers : (ns : List ℕ) → from_numbers (numbers ns) ≡ ns
from_numbers-numbers [] = refl
from_numbers-numbers (n ∷ ns) = ap (λ xs. n ∷ xs) (from_numbers-numbers ns)

-- a list of lists as a tree of pairs, and back
abbrev lists : List (List ℕ) → Gv
lists [] = gnil
lists (ns ∷ nss) = gcons (numbers ns) (lists nss)

abbrev from_lists : Gv → List (List ℕ)
from_lists gnil = []
from_lists (gnum n) = []
from_lists (gcons a b) = from_numbers a ∷ from_lists b

from_lists-lists : (nss : List (List ℕ)) → from_lists (lists nss) ≡ nss
from_lists-lists [] = refl
from_lists-lists (ns ∷ nss) = λ i. from_numbers-numbers ns i ∷ from_lists-lists nss i

-- the arguments as a tree of pairs, and back
abbrev args_gv : Args → Gv
args_gv done = gnil
args_gv (name x rest) = gcons (gnum x) (args_gv rest)
args_gv (child op payloads args rest) = gcons (gcons gnil (gcons (gnum op) (gcons (lists payloads) (args_gv args)))) (args_gv rest)
args_gv (bind x inner rest) = gcons (gcons (gnum x) (args_gv inner)) (args_gv rest)

abbrev args_of : Gv → Args
args_of gnil = done
args_of (gnum n) = done
args_of (gcons gnil rest) = done
args_of (gcons (gnum x) rest) = name x (args_of rest)
args_of (gcons (gcons gnil gnil) rest) = done
args_of (gcons (gcons gnil (gnum n)) rest) = done
args_of (gcons (gcons gnil (gcons op gnil)) rest) = done
args_of (gcons (gcons gnil (gcons op (gnum n))) rest) = done
args_of (gcons (gcons gnil (gcons op (gcons payloads args))) rest) = child (num op) (from_lists payloads) (args_of args) (args_of rest)
args_of (gcons (gcons (gnum x) inner) rest) = bind x (args_of inner) (args_of rest)
args_of (gcons (gcons (gcons a b) inner) rest) = done

args_of-args_gv : (a : Args) → args_of (args_gv a) ≡ a
args_of-args_gv done = refl
args_of-args_gv (name x rest) = ap (name x) (args_of-args_gv rest)
args_of-args_gv (child op payloads args rest) = λ i. child op (from_lists-lists payloads i) (args_of-args_gv args i) (args_of-args_gv rest i)
args_of-args_gv (bind x inner rest) = λ i. bind x (args_of-args_gv inner i) (args_of-args_gv rest i)

pub args_gv_inj : (a b : Args) → args_gv a ≡ args_gv b → a ≡ b
args_gv_inj a b p = sym (args_of-args_gv a) ∙ (ap args_of p ∙ args_of-args_gv b)

-- how arguments are told apart
abbrev pub args_code : Coded Args
args_code = record { code = args_gv; inj = args_gv_inj }

-- how terms are told apart
abbrev pub term_code : Coded Term
term_code =
    code_by (ℕ × (List (List ℕ) × Args)) (coded× coded_ℕ (coded× (coded_list (coded_list coded_ℕ)) args_code)) (λ t. (t.op, (t.payloads, t.args))) (λ p. record { op = p.0; payloads = p.1.0; args = p.1.1 }) (λ _. refl)

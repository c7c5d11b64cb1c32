-- How renaming, moving and the nameless form go together.
use Rattle.std.proofs.Common.{◌≡◌, ℕ, sym, ◌∙◌, ap, refl}
use Rattle.std.proofs.Math.Path.{fun_ext}
use Rattle.slotted_theory.specs.Term.{Args, Term, done, name, child, bind}
use Rattle.slotted_theory.specs.Nameless.{DArgs, DTerm, stop, place, sub, scope, extend, lift, nameless_args, nameless_by, nameless, moved_args, moved}
use Rattle.slotted_theory.specs.Renaming.{IsInjective, renamed_args, renamed}
use Rattle.slotted_theory.proofs.Names.{lift-extend, extend-renamed, lift-lift, lift-id}

-- moving a nameless form numbers the free names otherwise
pub moved-nameless_args : (f ρ : ℕ → ℕ) (a : Args) → moved_args f (nameless_args ρ a) ≡ nameless_args (λ x. f (ρ x)) a
moved-nameless_args f ρ done = refl
moved-nameless_args f ρ (name x rest) = ap (place (f (ρ x))) (moved-nameless_args f ρ rest)
moved-nameless_args f ρ (child op payloads args rest) = λ i. sub op payloads (moved-nameless_args f ρ args i) (moved-nameless_args f ρ rest i)
moved-nameless_args f ρ (bind x inner rest) =
    λ i. scope ((moved-nameless_args (lift f) (extend x ρ) inner ∙ ap (λ r. nameless_args r inner) (fun_ext (lift-extend f x ρ))) i) (moved-nameless_args f ρ rest i)

-- renaming by an injective function numbers the names otherwise
pub nameless_args-renamed : (π : ℕ → ℕ) → IsInjective π → (ρ : ℕ → ℕ) (a : Args) → nameless_args ρ (renamed_args π a) ≡ nameless_args (λ x. ρ (π x)) a
nameless_args-renamed π inj ρ done = refl
nameless_args-renamed π inj ρ (name x rest) = ap (place (ρ (π x))) (nameless_args-renamed π inj ρ rest)
nameless_args-renamed π inj ρ (child op payloads args rest) = λ i. sub op payloads (nameless_args-renamed π inj ρ args i) (nameless_args-renamed π inj ρ rest i)
nameless_args-renamed π inj ρ (bind x inner rest) =
    λ i. scope ((nameless_args-renamed π inj (extend (π x) ρ) inner ∙ ap (λ r. nameless_args r inner) (fun_ext (extend-renamed π inj x ρ))) i) (nameless_args-renamed π inj ρ rest i)

-- two moves are one, and moving by the identity changes nothing
pub moved_args-moved_args : (f g : ℕ → ℕ) (d : DArgs) → moved_args f (moved_args g d) ≡ moved_args (λ x. f (g x)) d
moved_args-moved_args f g stop = refl
moved_args-moved_args f g (place x rest) = ap (place (f (g x))) (moved_args-moved_args f g rest)
moved_args-moved_args f g (sub op payloads args rest) = λ i. sub op payloads (moved_args-moved_args f g args i) (moved_args-moved_args f g rest i)
moved_args-moved_args f g (scope inner rest) =
    λ i. scope ((moved_args-moved_args (lift f) (lift g) inner ∙ ap (λ r. moved_args r inner) (fun_ext (lift-lift f g))) i) (moved_args-moved_args f g rest i)

pub moved_args-id : (d : DArgs) → moved_args (λ x. x) d ≡ d
moved_args-id stop = refl
moved_args-id (place x rest) = ap (place x) (moved_args-id rest)
moved_args-id (sub op payloads args rest) = λ i. sub op payloads (moved_args-id args i) (moved_args-id rest i)
moved_args-id (scope inner rest) = λ i. scope ((ap (λ r. moved_args r inner) (fun_ext lift-id) ∙ moved_args-id inner) i) (moved_args-id rest i)

-- the same of whole terms
pub moved-moved : (f g : ℕ → ℕ) (d : DTerm) → moved f (moved g d) ≡ moved (λ x. f (g x)) d
moved-moved f g d = λ i. record { op = d.op; payloads = d.payloads; args = moved_args-moved_args f g d.args i }

pub moved-id : (d : DTerm) → moved (λ x. x) d ≡ d
moved-id d = λ i. record { op = d.op; payloads = d.payloads; args = moved_args-id d.args i }

pub moved-nameless : (ρ : ℕ → ℕ) (t : Term) → moved ρ (nameless t) ≡ nameless_by ρ t
moved-nameless ρ t = λ i. record { op = t.op; payloads = t.payloads; args = moved-nameless_args ρ (λ x. x) t.args i }

pub nameless_by-renamed : (ρ π : ℕ → ℕ) → IsInjective π → (t : Term) → nameless_by ρ (renamed π t) ≡ nameless_by (λ x. ρ (π x)) t
nameless_by-renamed ρ π inj t = λ i. record { op = t.op; payloads = t.payloads; args = nameless_args-renamed π inj ρ t.args i }

pub nameless-renamed : (π : ℕ → ℕ) → IsInjective π → (t : Term) → nameless (renamed π t) ≡ moved π (nameless t)
nameless-renamed π inj t = nameless_by-renamed (λ x. x) π inj t ∙ sym (moved-nameless π t)

-- What several clauses say of one answer, together.
use Rattle.std.specs.Prelude.{IfOk, OnOk, Result, Ok, Err}

-- of an answer P holds, and K in every case, of which Q follows
pub IfOk-with : {T E : Type 0} (r : Result T E) (K : Type 0) (P Q : T → Type 0) → ((x : T) → K → P x → Q x) → OnOk r K → IfOk r P → IfOk r Q
IfOk-with (Ok x) K P Q f k p = f x k p
IfOk-with (Err e) K P Q f k p = tt

-- two facts of one answer
pub IfOk-both : {A E : Type 0} (r : Result A E) (P Q R : A → Type 0) → ((x : A) → P x → Q x → R x) → IfOk r P → IfOk r Q → IfOk r R
IfOk-both (Ok x) P Q R h p q = h x p q
IfOk-both (Err e) P Q R h p q = tt

-- what three clauses say of an answer, together
pub IfOk-three : {A E : Type 0} (r : Result A E) (P Q R S : A → Type 0) → ((x : A) → P x → Q x → R x → S x) → IfOk r P → IfOk r Q → IfOk r R → IfOk r S
IfOk-three (Ok x) P Q R S f p q s = f x p q s
IfOk-three (Err e) P Q R S f p q s = tt

pub OnOk-always : {T E P : Type 0} (r : Result T E) → P → OnOk r P
OnOk-always (Ok x) p = p
OnOk-always (Err e) p = tt

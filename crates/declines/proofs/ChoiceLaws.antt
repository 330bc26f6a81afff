-- Two chains of the same tests are compared at their ends.
--     same_choice   functions of the two results agree where they agree at both ends
-- Assumes nothing.
use Rattle.std.proofs.Common.{◌≡◌, Bool, true, false, cond}

pub same_choice : {A B C : Type 0} (f : A → C) (g : B → C) (t : Bool) {a b : A} {x y : B}
    → f a ≡ g x → f b ≡ g y → f (cond t a b) ≡ g (cond t x y)
same_choice f g true h k = h
same_choice f g false h k = k

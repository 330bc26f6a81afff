-- How changes are written in every definition. Nothing of document 01 is decided here.
--     v ▷ f                v, changed by f; v ▷ f ▷ g is changed by f, then by g
-- A choice is the library's `if t then a else b`: a where the test t holds, else b; `else if` goes on.
-- Assumes nothing.

infixl 6 ◌▷◌
abbrev pub ◌▷◌ : {A B : Type 0} → A → (A → B) → B
v ▷ f = f v

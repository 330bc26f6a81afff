-- Laws of the reader: what its loops go by.
--     found_is_length, newline_found, length_at_most   the length of a line, as a search of its bytes finds it; within the script
--     lines_end          a last line without its newline reads as with it
--     lines_append       the lines up to a newline do not depend on the bytes after it
--     commands_none, commands_first   what the lines ask, one after the other
--     lines_first        the lines of a script that is not empty: its first line, and those after its newline
-- Assumes nothing.
use Prim.Native.Nat.{ℕ, suc, ◌+◌, ◌<◌, ◌≤◌}
use mathlib.Core.Path.{◌≡◌, refl, sym, ap, ◌∙◌}
use mathlib.Core.Bool.{Bool, true, false, cond}
use mathlib.Core.List.{map, List, [], ◌∷◌, ◌++◌}
use native.Mathlib.Omega.{arith}
use lib.Dec.{eqb, ltb}
use lib.ListN.{length, take, drop}
use Rattle.std.proofs.Common.{Some, None}
use Rattle.std.specs.Option.{unwrap_or}
use Rattle.std.specs.List.{position, position_or_len}
use Rattle.std.proofs.lemmas.List.Recursion.{is_position_or_len}
use borrow.Author.Tests.{ltb-false}
use Rattle.bits.proofs.TestLaws.{by_cond}
use Rattle.text.specs.Text.{newline}
use Rattle.reader.specs.Reader.{before_first, lines_of, line_length_of, first_line_of, command_of, commands_of}
use native.Mathlib.Numerals.{add-one}

-- ---- the first line

-- the index of the first newline, or the length where there is none
pub found_is_length : (l : List ℕ) → position_or_len (λ (b : ℕ). eqb b newline) l ≡ line_length_of l
unfolding line_length_of
found_is_length l =
    sym
    (is_position_or_len line_length_of (λ (b : ℕ). eqb b newline) refl
    (λ b bs. ap (λ (n : ℕ). cond (eqb b newline) 0 n) (omega arith)) l)

pub length_at_most : (l : List ℕ) → line_length_of l ≤ length l
unfolding line_length_of
length_at_most [] = omega arith
length_at_most (b ∷ bs) =
    by_cond (λ (n : ℕ). n ≤ suc (length bs)) (eqb b newline) (λ _. omega arith)
    (λ _. omega (arith, length_at_most bs))

-- where a search finds the newline, or the end
pub newline_found : (l : List ℕ) → unwrap_or (position (λ (b : ℕ). eqb b newline) l) (length l) ≡ line_length_of l
newline_found l = go (ltb at (length l)) refl
  where
    at : ℕ
    at = position_or_len (λ (b : ℕ). eqb b newline) l

    go : (t : Bool) → ltb at (length l) ≡ t → unwrap_or (cond t (Some at) None) (length l) ≡ line_length_of l
    go true h = found_is_length l
    go false h = omega (arith, ltb-false at (length l) h, length_at_most l, found_is_length l)

-- ---- lines

abbrev Split : List ℕ → Type 0
Split l = lines_of l ≡ take (line_length_of l) l ∷ lines_of (drop (suc (line_length_of l)) l)

split_by : (b : ℕ) (bs : List ℕ) (t : Bool) → eqb b newline ≡ t → (0 < length bs → Split bs) → Split (b ∷ bs)
unfolding lines_of line_length_of
split_by b bs true e rest = rw e
split_by b [] false e rest = rw e
split_by b (d ∷ bs) false e rest = rw e (ap (before_first b) (rest (omega arith)))

-- a script that is not empty: its first line, then those after the newline
pub lines_first : (l : List ℕ) → 0 < length l →
    lines_of l ≡ take (line_length_of l) l ∷ lines_of (drop (suc (line_length_of l)) l)
lines_first [] h = absurd (omega arith)
lines_first (b ∷ bs) h = split_by b bs (eqb b newline) refl (lines_first bs)

-- [Console.3] a script that ends in the middle of a line, and the same script with that line ended
pub lines_end : (b : ℕ) (bs : List ℕ) → eqb b newline ≡ false → lines_of (bs ++ (b ∷ [])) ≡ lines_of (bs ++ (b ∷ newline ∷ []))
unfolding lines_of
lines_end b [] h = rw h
lines_end b (c ∷ bs) h = ap (λ (ls : List (List ℕ)). cond (eqb c newline) ([] ∷ ls) (before_first c ls)) (lines_end b bs h)

-- [Console.4] lines that are ended are not changed by what follows
pub lines_append : (a b : List ℕ) → lines_of (a ++ (newline ∷ b)) ≡ lines_of (a ++ (newline ∷ [])) ++ lines_of b
unfolding lines_of
lines_append [] b = refl
lines_append (c ∷ a) b =
    ap (λ (ls : List (List ℕ)). cond (eqb c newline) ([] ∷ ls) (before_first c ls)) (lines_append a b)
    ∙ pushed c (eqb c newline) (lines_of (a ++ (newline ∷ []))) (lines_of b) (some a)
  where
    some : (a : List ℕ) → 0 < length (lines_of (a ++ (newline ∷ [])))
    some [] = omega arith
    some (c ∷ a) = more c (eqb c newline) (lines_of (a ++ (newline ∷ []))) (some a)
      where
        more : (c : ℕ) (t : Bool) (ls : List (List ℕ)) → 0 < length ls → 0 < length (cond t ([] ∷ ls) (before_first c ls))
        more c true ls h = omega arith
        more c false [] h = absurd (omega arith)
        more c false (l ∷ ls) h = omega arith

    pushed : (c : ℕ) (t : Bool) (ls ms : List (List ℕ)) → 0 < length ls →
        cond t ([] ∷ (ls ++ ms)) (before_first c (ls ++ ms)) ≡ cond t ([] ∷ ls) (before_first c ls) ++ ms
    pushed c true ls ms h = refl
    pushed c false [] ms h = absurd (omega arith)
    pushed c false (l ∷ ls) ms h = refl

-- ---- what the lines ask

pub commands_none : (l : List ℕ) → length l ≡ 0 → commands_of l ≡ []
unfolding lines_of
commands_none [] h = refl
commands_none (b ∷ bs) h = absurd (omega arith)

pub commands_first : (l : List ℕ) → 0 < length l →
    commands_of l ≡ (first_line_of l).command ∷ commands_of (drop ((first_line_of l).len + 1) l)
commands_first l h = rw (add-one (line_length_of l)) (ap (map command_of) (lines_first l h))

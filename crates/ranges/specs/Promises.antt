-- What it is that a promise determines the answer: of two results that it allows for the same arguments each is the other.
-- It renders document 01, "Strength of the promises". A promise is a function's `ensures` as the check reads it off the source, the generated `Reads.Post`.
use Rattle.std.specs.Prelude.{ℕ, ◌≡◌, List}
use contract.Lifetimes.{Lfts}
use borrow.Fn.Kinds.{ParamKind, ResultKind, Out, Dens, res_t, ended_of}
use denote.Triple.Clauses.{AtExit}

-- for all lifetimes κs, arguments a and contents s, t of what is lent, as the function returns
abbrev pub Determines : (n : ℕ) (ps : List (ParamKind n)) (r : ResultKind n) → Out n ps r → Type 0
Determines n ps r promise =
    (κs : Lfts n) (a : Dens κs ps) (x y : (res_t r κs).Denot) (s t : AtExit (ended_of n ps r) κs) → promise κs a x s → promise κs a y t → x ≡ y

-- the same where slices are lent to be written: their contents are determined too; `left` reads them
abbrev pub DeterminesAll : (n : ℕ) (ps : List (ParamKind n)) (r : ResultKind n) → Out n ps r → (L : Type 0) → ((κs : Lfts n) → AtExit (ended_of n ps r) κs → L) → Type 0
DeterminesAll n ps r promise L left =
    (κs : Lfts n) (a : Dens κs ps) (x y : (res_t r κs).Denot) (s t : AtExit (ended_of n ps r) κs) → promise κs a x s → promise κs a y t
    → (x ≡ y) × (left κs s ≡ left κs t)

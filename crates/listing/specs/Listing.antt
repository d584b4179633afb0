-- What `list` returns: the whole text of a block's listing.
-- Document 01, "Block E, whole": the block is bound by method 0, checked, and printed; refused, one line.
use Rattle.std.specs.Prelude.{ℕ, cond, not, List, length, get_or, eqb, Result, Ok, Err}
use Rattle.arrayvec.specs.ArrayVec.{ArrayVec}
use Rattle.ranges.specs.Below.{filled}
use Rattle.reader.specs.declared.refusals.Refusal.{Refusal}
use Rattle.reader.specs.Refusals.{number_of}
use Rattle.checker.specs.Rules.{verdict}
use Rattle.allocator.specs.Allocation.{binding_by}
use Rattle.allocator.specs.Answer.{allocated}
use Rattle.listing.specs.Text.{listed, counts_text, refused_text}
use Rattle.listing.specs.declared.Listing.{Listing}

-- the characters from the front, the rest 0, and how many they are
abbrev pub in_full : List ℕ → Listing
in_full t = record { text = filled 2976 (length t) 0 (λ i. get_or t i 0); length = length t }

-- the text of a listing that came to be, or the one line of a refusal
abbrev pub bound_as : Result (ArrayVec ℕ) Refusal → List ℕ
bound_as (Ok text) = text.items
bound_as (Err e) = refused_text (number_of e.reason) e.first

-- the number of the allocator's refusal and its first record, of the checker's and its later record, or a line a value and the line of counts
unfoldable pub text_of : List ℕ → List ℕ
text_of b =
    cond (not (eqb (allocated b 0 640).number 0)) (refused_text (allocated b 0 640).number (allocated b 0 640).first)
    (cond (not (eqb (verdict b (binding_by 0 b)).number 0)) (refused_text (verdict b (binding_by 0 b)).number (verdict b (binding_by 0 b)).later)
    (listed b (binding_by 0 b) (counts_text (verdict b (binding_by 0 b)).registers (verdict b (binding_by 0 b)).units (verdict b (binding_by 0 b)).buses)))

unfoldable pub listing_of : List ℕ → Listing
listing_of b = in_full (text_of b)

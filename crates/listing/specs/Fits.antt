-- Laws of the whole text: how long each text is, and that every listing fits.
-- Document 01, "Block E, whole".
use Rattle.std.specs.Prelude.{ℕ, ◌+◌, ◌*◌, ◌≤◌, ◌≡◌, refl, List, length, get_or, take, eqb}
use Rattle.std.proofs.Common.{arith, length-append, length-take, eqb-true}
use Rattle.ranges.specs.Below.{rows}
use Rattle.ranges.specs.Tables.{length-filled}
use Rattle.ranges.specs.Truth.{by-test}
use Rattle.reader.specs.Block.{values}
use Rattle.checker.specs.Rules.{verdict}
use Rattle.allocator.specs.Allocation.{binding_by}
use Rattle.allocator.specs.Answer.{allocated}
use Rattle.allocator.specs.Bound.{bound-few}
use Rattle.listing.specs.declared.Listing.{Listing}
use Rattle.listing.specs.Text.{line_of, listed, counts_text, refused_text}
use Rattle.listing.specs.Listing.{text_of, listing_of}
use Rattle.listing.specs.Characters.{lines-length}

-- ---- lengths

pub refused-length : (number first : ℕ) → length (refused_text number first) ≡ 14
unfolding refused_text
refused-length number first = refl

pub counts-length : (registers units buses : ℕ) → length (counts_text registers units buses) ≡ 16
unfolding counts_text
counts-length registers units buses = refl

pub listed-length : (b d counts : List ℕ) → length counts ≡ 16 → 37 * values b + 16 ≡ length (listed b d counts)
unfolding listed
listed-length b d counts e = rw (length-append (rows (values b) (line_of b d)) counts, lines-length b d, e)

pub listing-fits : (b : List ℕ) → length (text_of b) ≤ 2976
unfolding text_of
listing-fits b =
    let v = verdict b (binding_by 0 b) in
    by-test (eqb (allocated b 0 640).number 0)
    (λ t. by-test (eqb (verdict b (binding_by 0 b)).number 0)
    (λ e. rw (t, e) (omega (arith, bound-few b 0 640 (eqb-true (allocated b 0 640).number 0 t), listed-length b (binding_by 0 b) (counts_text v.registers v.units v.buses) (counts-length v.registers v.units v.buses))))
    (λ e. rw (t, e) (omega (arith, refused-length v.number v.later))))
    (λ t. rw t (omega (arith, refused-length (allocated b 0 640).number (allocated b 0 640).first)))

-- a listing lies within its own text, so that it can be handed on as a part of it
pub within_text : (r : Listing) (b : List ℕ) → r ≡ listing_of b → (r.length ≤ length r.text) × (r.length ≡ length (take r.length r.text))
unfolding listing_of
within_text r b e =
    let fits = listing-fits b in
    let long = length-filled 2976 0 (λ i. get_or (text_of b) i 0) (length (text_of b)) in
    rw e (omega arith, simp length-take (omega arith))

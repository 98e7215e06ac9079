-- Texts stored in a buffer. Assumes nothing.
--     stored-nil       nothing is stored
--     stored_one       a byte is stored by one write
--     stored-as        a text that equals another
--     stored-append    a text stored, and another after it
--     Copied           a text stored byte by byte, in a loop
use Prim.Native.Nat.{ℕ, ◌+◌, ◌≤◌, ◌<◌, zero-le}
use mathlib.Core.Path.{◌≡◌, refl, sym, ap, ap₂, subst, ◌∙◌}
use mathlib.Core.List.{List, [], ◌∷◌, ◌++◌, append-nil, append_assoc}
use native.Mathlib.Nat.{add-zero, add_assoc}
use native.Mathlib.Numerals.{add-one}
use native.Mathlib.Omega.{arith}
use lib.ListN.{length, take, drop, set, get_or, length-append, length-drop, length-set, take-append-drop}
use lib.Seq.{length-take-le, take-suc, take_all, take_at, drop_at, drop-drop, set_split}
use Rattle.zone_moves.specs.Listing.{written, Stored}

pub stored-nil : {out : List ℕ} {at : ℕ} → Stored out at [] out at
unfolding written
stored-nil {out} {at} =
    record {
      is = sym (ap (λ (k : ℕ). take at out ++ [] ++ drop k out) (add-zero at) ∙ ap (λ (r : List ℕ). r ++ drop at out) (append-nil (take at out)) ∙ take-append-drop at out);
      place = sym (add-zero at);
    }

pub stored_one : {out : List ℕ} {at b : ℕ} → at < length out → Stored out at (b ∷ []) (set out at b) (at + 1)
unfolding written
stored_one {out} {at} {b} h =
    record {
      is = set_split out at b h ∙ rw (append_assoc, add-one at);
      place = refl;
    }

pub stored-as : {out : List ℕ} {at : ℕ} {a b after : List ℕ} {next : ℕ} → a ≡ b → Stored out at a after next → Stored out at b after next
stored-as {out} {at} {a} {b} {after} {next} e f = subst (λ (t : List ℕ). Stored out at t after next) e f

-- what stands before the seam, and after it
module _ (out : List ℕ) (at : ℕ) (a : List ℕ) (room : at + length a ≤ length out) where
  head-length : length (take at out ++ a) ≡ at + length a
  head-length = length-append (take at out) a ∙ ap (λ (k : ℕ). k + length a) (length-take-le at out (omega arith))

  take-written : take (at + length a) (written out at a) ≡ take at out ++ a
  unfolding written
  take-written = take_at (take at out ++ a) (drop (at + length a) out) (at + length a) head-length

  drop-written : (n : ℕ) → drop (at + length a + n) (written out at a) ≡ drop (at + length a + n) out
  unfolding written
  drop-written n =
      sym (drop-drop n (at + length a) (take at out ++ a ++ drop (at + length a) out))
      ∙ ap (drop n) (drop_at (take at out ++ a) (drop (at + length a) out) (at + length a) head-length)
      ∙ drop-drop n (at + length a) out

  pub written-append : (b : List ℕ) → written (written out at a) (at + length a) b ≡ written out at (a ++ b)
  unfolding written
  written-append b =
      ap₂ (λ (x y : List ℕ). x ++ b ++ y) take-written (drop-written (length b))
      ∙ ap (λ (x : List ℕ). x ++ drop (at + length a + length b) out) (append_assoc (take at out) a b)
      ∙ ap (λ (k : ℕ). take at out ++ (a ++ b) ++ drop k out) (add_assoc at (length a) (length b) ∙ ap (λ (k : ℕ). at + k) (sym (length-append a b)))

pub length-written : (out : List ℕ) (at : ℕ) (a : List ℕ) → at + length a ≤ length out → length (written out at a) ≡ length out
unfolding written
length-written out at a room = length-append (take at out ++ a) (drop (at + length a) out) ∙ simp length-drop (omega (arith, head-length out at a room))

pub stored-append : {out : List ℕ} {at : ℕ} {a after : List ℕ} {next : ℕ} {b last : List ℕ} {end : ℕ} → at + length a ≤ length out
    → Stored out at a after next → Stored after next b last end → Stored out at (a ++ b) last end
stored-append {out} {at} {a} {after} {next} {b} {last} {end} room f g =
    record {
      is = g.is ∙ ap₂ (λ (l : List ℕ) (k : ℕ). written l k b) f.is f.place ∙ written-append out at a room b;
      place = omega (arith, f.place, g.place, length-append a b);
    }

-- the first i bytes of a text stored from `at` on
pub record Copied (out : List ℕ) (at : ℕ) (text after : List ℕ) (i : ℕ) : Type 0 where
  pub stored : Stored out at (take i text) after (at + i)
  pub size : length after ≡ length out
  pub room : at + length text ≤ length out
  pub within : i ≤ length text

pub copied_none : {out : List ℕ} {at : ℕ} {text : List ℕ} → at + length text ≤ length out → Copied out at text out 0
copied_none {out} {at} room =
    record { stored = subst (λ (k : ℕ). Stored out at [] out k) (sym (add-zero at)) stored-nil; size = refl; room = room; within = zero-le }

pub copied_more : {out : List ℕ} {at : ℕ} {text after : List ℕ} {i : ℕ} → Copied out at text after i → i < length text
    → Copied out at text (set after (at + i) (get_or text i 0)) (i + 1)
copied_more {out} {at} {text} {after} {i} f h =
    let k : length (take i text) ≡ i = length-take-le i text (omega arith) in
    let e : take i text ++ (get_or text i 0 ∷ []) ≡ take (i + 1) text = sym (ap (λ (n : ℕ). take n text) (add-one i) ∙ take-suc text i 0 h) in
    record {
      stored =
          subst (λ (n : ℕ). Stored out at (take (i + 1) text) (set after (at + i) (get_or text i 0)) n) (add_assoc at i 1)
          (stored-as e (stored-append (omega arith) f.stored (stored_one (omega arith))));
      size = length-set after (at + i) (get_or text i 0) ∙ f.size;
      room = f.room;
      within = omega arith;
    }

pub copied_all : {out : List ℕ} {at : ℕ} {text after : List ℕ} {i : ℕ} → Copied out at text after i → length text ≤ i → Stored out at text after (at + i)
copied_all {text = text} {i = i} f h = stored-as (take_all i text h) f.stored

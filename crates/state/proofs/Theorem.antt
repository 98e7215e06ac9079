-- What is proved of the record: `round_trip`, `good-is` and `updates`. Assumes nothing.
use Prim.Native.Nat.{ℕ, ◌+◌, ◌<◌}
use mathlib.Core.Path.{◌≡◌, refl, subst}
use mathlib.Core.Bool.{true}
use mathlib.Core.Logic.{◌⊎◌, inl, inr, ◌↔◌}
use mathlib.Core.List.{List}
use native.Mathlib.Omega.{arith}
use lib.ListN.{length}
use Rattle.blocks.specs.Block.{AreBytes}
use Rattle.layout.specs.Moves.{total}
use Rattle.layout.proofs.Laws.Bounds.{total-high}
use Rattle.state.specs.declared.types.Health.TheVariants.{Whole, Out, Lost, Rebuilding}
use Rattle.state.specs.declared.types.Health.{Health}
use Rattle.state.specs.declared.types.Record.{Record}
use Rattle.state.specs.Good.{geometry, good, HealthWithin, GoodRecord}
use Rattle.state.specs.Bytes.{record_length, decode, plain, good_bytes, encode}
use Rattle.state.specs.Theorem.{RoundTrip, GoodIs, Updates}
use Rattle.conditions.proofs.Tests.{both}
use Rattle.state.proofs.Laws.Good.{limits, within-limits, out-lt, rebuilding-lt}
use Rattle.state.proofs.Laws.Bytes.{decode-encode, length-encode, plain-encode, Fits, bytes-encode, encode-decode}

one_of : (h : Health) → (h ≡ Whole) ⊎ (((d : ℕ) × (h ≡ Out d)) ⊎ ((h ≡ Lost) ⊎ ((d : ℕ) × (c : ℕ) × (h ≡ Rebuilding d c))))
one_of Whole = inl refl
one_of (Out d) = inr (inl (d, refl))
one_of Lost = inr (inr (inl refl))
one_of (Rebuilding d c) = inr (inr (inr (d, c, refl)))

pub round_trip : RoundTrip
unfolding encode
round_trip =
    record {
      record_back = decode-encode;
      bytes_back = encode-decode;
      plain_only = λ b r e. (subst (λ (x : List ℕ). length x ≡ record_length) e (length-encode r), subst (λ (x : List ℕ). plain x ≡ true) e (plain-encode r));
      offsets = λ r. (refl, refl, refl, refl, omega arith, refl, refl, omega arith, omega arith, omega arith);
      health_bytes = (refl, refl, refl, (λ d. (refl, refl, refl)), refl, refl, refl, λ d c. (refl, refl, refl));
      healths = one_of;
      example = refl;
    }

-- a good record's fields fit their bytes
module _ (r : Record) (l : GoodRecord r) where
  health-small : (h : Health) → HealthWithin (r.old + r.new) r.stripes h → HealthWithin 256 4294967296 h
  health-small Whole o = tt
  health-small (Out d) o = omega (arith, o, l.array.disks)
  health-small Lost o = tt
  health-small (Rebuilding d c) o = (omega (arith, o.0, l.array.disks), omega (arith, o.1, l.array.stripes_high))

  fits : Fits r
  fits =
      record {
        old-fits = omega (arith, l.array.disks);
        new-fits = omega (arith, l.array.disks);
        health-fits = health-small r.health l.health;
        block-fits = omega (arith, l.block_high);
        stripes-fits = omega (arith, l.array.stripes_high);
        moves-fits = omega (arith, l.array.moves, total-high (geometry r) l.array);
      }

-- good bytes are those of a good record
good-bytes : (b : List ℕ) → AreBytes b → length b ≡ record_length → (good_bytes b ≡ true) ↔ ((r : Record) × (good r ≡ true) × (encode r ≡ b))
good-bytes b are long = (to, from)
  where
    to : good_bytes b ≡ true → (r : Record) × (good r ≡ true) × (encode r ≡ b)
    to q = let z = both (plain b) (good (decode b)) q in (decode b, z.1, encode-decode b are long z.0)

    from : ((r : Record) × (good r ≡ true) × (encode r ≡ b)) → good_bytes b ≡ true
    from x = subst (λ (y : List ℕ). good_bytes y ≡ true) x.2 (rw (plain-encode x.0, decode-encode x.0) x.1)

-- the disk that is out or being rebuilt, if one is, and the stripes done
below : (N T : ℕ) (h : Health) → ((d : ℕ) → h ≡ Out d → d < N) → ((d c : ℕ) → h ≡ Rebuilding d c → (d < N) × (c < T)) → HealthWithin N T h
below N T Whole f g = tt
below N T (Out d) f g = f d refl
below N T Lost f g = tt
below N T (Rebuilding d c) f g = g d c refl

pub good-is : GoodIs
unfolding total
good-is =
    record {
      exactly = λ r. (limits r, within-limits r);
      limits = λ r. (
        (λ l.
            let a = l.array in
            (a.disks.n_low, a.disks.n_high, a.disks.m_high, l.block_low, l.block_high, a.stripes_low, a.stripes_high, a.moves, (λ d e. out-lt r d l e), λ d c e. rebuilding-lt r d c l e)),
        λ (n_low, n_high, m_high, B-low, B-high, T-low, T-high, moves, out, rebuilding).
            record {
              array = record {
                disks = record { n_low = n_low; n_high = n_high; m_high = m_high };
                stripes_low = T-low;
                stripes_high = T-high;
                moves = moves;
              };
              block_low = B-low;
              block_high = B-high;
              health = below (r.old + r.new) r.stripes r.health out rebuilding;
            },
      );
      array = λ r. refl;
      fits = λ r l. bytes-encode r (fits r l);
      bytes = good-bytes;
    }

pub updates : Updates
updates = record { formatted_is = λ n B T. refl; grown_is = λ r m. refl; moves_are = λ r t. refl; health_is = λ r h. refl }

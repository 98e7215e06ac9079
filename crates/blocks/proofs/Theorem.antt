-- What blocks are made of: `in_bytes`. Assumes nothing.
use Prim.Native.Nat.{ℕ}
use mathlib.Core.Path.{refl}
use lib.ListN.{length-replicate}
use Rattle.blocks.specs.Theorem.{InBytes}
use Rattle.blocks.proofs.Laws.Xor.{get_or-xor_b, get_or-zeros, length-xor_b}

pub in_bytes : InBytes
in_bytes =
    record {
      bytes = λ l. ((λ h. h), (λ h. h));
      begins = λ B T S d. refl;
      zero_bytes = get_or-zeros;
      zero_long = λ len. length-replicate {A = ℕ} len 0;
      xor_bytes = get_or-xor_b;
      xor_long = length-xor_b;
    }

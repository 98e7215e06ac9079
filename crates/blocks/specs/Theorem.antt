-- What blocks are made of, in bare numbers: statements of the crates above cite these definitions by name.
-- The statement is `InBytes`; `in_bytes` of proofs/Theorem.antt proves it.
use Rattle.std.specs.Prelude.{ℕ, ◌+◌, ◌*◌, ◌<◌, ◌≡◌, ◌↔◌, List, length, get_or}
use Rattle.std.specs.Int.Bits.{bit_xor}
use Rattle.blocks.specs.Block.{AreBytes, zeros}
use Rattle.blocks.specs.Xor.{xor_b}
use Rattle.blocks.specs.Stripe.{offset}

pub record InBytes : Type 0 where
  -- a byte is a number below 256
  pub bytes : (l : List ℕ) → AreBytes l ↔ ((i : ℕ) → get_or l i 0 < 256)
  -- "disk 0 first, each disk T × B bytes": where block S of disk d begins
  pub begins : (B T S d : ℕ) → offset B T S d ≡ (d * T + S) * B
  pub zero_bytes : (len i : ℕ) → get_or (zeros len) i 0 ≡ 0
  pub zero_long : (len : ℕ) → length (zeros len) ≡ len
  pub xor_bytes : (a b : List ℕ) (i : ℕ) → get_or (xor_b a b) i 0 ≡ bit_xor (get_or a i 0) (get_or b i 0)
  pub xor_long : (a b : List ℕ) (len : ℕ) → length a ≡ len → length b ≡ len → length (xor_b a b) ≡ len

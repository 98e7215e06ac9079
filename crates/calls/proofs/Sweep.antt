-- The list of unsound stripes: `sweeps`. Assumes nothing.
use Prim.Native.Nat.{◌+◌}
use native.Mathlib.Omega.{arith}
use Rattle.blocks.proofs.Laws.Stripe.{length-place, get_or-place, length-others}
use Rattle.calls.specs.Sweep.{Sweeps}
use Rattle.calls.proofs.Laws.Unsound.{byte-of-others, tested, passes, to-seen, from-seen, to-bytes, from_bytes, sound-alike, unsound, not_sound, from_list, on_list, rises}

pub sweeps : Sweeps
sweeps =
    record {
      place_bytes = λ r img S d j l. get_or-place r.block r.stripes img S d j l;
      place_long = λ r img S d long lS ld. length-place r.block r.stripes img S d (r.old + r.new) lS ld (omega arith);
      others_bytes = byte-of-others;
      others_long = λ r img S d. length-others r.block r.stripes img S (r.old + r.new) d;
      tested = λ r img S. (tested r img S, passes r img S);
      in_seen = λ r img S long lS. (to-seen r img S, λ h. from-seen r img S long lS h.0 h.1);
      in_bytes = λ r img S whole long lS. (to-bytes r img S whole, λ h. from_bytes r img S whole long lS h.0 h.1);
      own_places = sound-alike;
      listed = λ r img S. (
        (λ h. let (l, q) = from_list r img r.stripes S h in (l, not_sound r img S q)),
        (λ h. on_list r img r.stripes S h.0 (unsound r img S h.1)),
      );
      rising = λ r img i j lt l. rises r img r.stripes i j lt l;
    }

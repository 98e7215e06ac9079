-- What an accepted call answers, by its definition alone. Assumes nothing.
use Prim.Native.Nat.{ℕ}
use mathlib.Core.Path.{◌≡◌, refl}
use mathlib.Core.Bool.{true, false, true≢false}
use mathlib.Core.List.{List}
use Rattle.layout.specs.Layout.{layout}
use Rattle.state.specs.declared.types.Record.{Record}
use Rattle.state.specs.Good.{geometry}
use Rattle.calls.specs.Call.{read, view, advance, Event, Answer, refused, done, bytes, made, all_sound, unsound_at, figures, placed, owned, accepted, number}
use Rattle.calls.specs.Health.{absent}
use Rattle.calls.specs.Images.{place_in, stored, recorded}
use Rattle.calls.specs.Effect.{place_of, view_of, scratch_left, advance_stores, parity_after, effect, act}

-- "0 is done"
pub zero-done : (a : Answer) → accepted a ≡ true → number a ≡ 0
zero-done (refused k) q = let z : k ≡ 0 = cc in z
zero-done done q = refl
zero-done (bytes v) q = refl
zero-done (made k) q = refl
zero-done (all_sound x) q = refl
zero-done (unsound_at S x) q = refl
zero-done (figures c t total h) q = refl
zero-done (placed p) q = refl
zero-done (owned o) q = refl

-- and what is not accepted is a refusal
pub is-refused : (a : Answer) → accepted a ≡ false → (k : ℕ) × (a ≡ refused k)
is-refused (refused k) q = (k, refl)
is-refused done q = absurd (true≢false q)
is-refused (bytes v) q = absurd (true≢false q)
is-refused (made k) q = absurd (true≢false q)
is-refused (all_sound x) q = absurd (true≢false q)
is-refused (unsound_at S x) q = absurd (true≢false q)
is-refused (figures c t total h) q = absurd (true≢false q)
is-refused (placed p) q = absurd (true≢false q)
is-refused (owned o) q = absurd (true≢false q)

-- a read's bytes are those of the block that it fills
pub fills : (e : Event) (r : Record) (b : ℕ) → e.call ≡ read b → (act e r).answer ≡ bytes (act e r).room
unfolding effect
fills e r b q = rw q refl

-- a view's are those of its place in the images, or of the scratch
pub shows : (e : Event) (r : Record) (b : ℕ) → e.call ≡ view b →
    (absent r.health (place_of r b).stripe (place_of r b).disk ≡ true → (act e r).answer ≡ bytes (act e r).room)
    × (absent r.health (place_of r b).stripe (place_of r b).disk ≡ false
    → ((act e r).answer ≡ bytes (place_in r e.images (place_of r b).stripe (place_of r b).disk)) × ((act e r).room ≡ e.room))
unfolding effect view_of scratch_left
shows e r b q = rw q ((λ u. rw u refl), (λ u. rw u (refl, refl)))

-- after no move stand the images lent, after k those that an advance of k leaves
pub parity_first : (r : Record) (img : List ℕ) (S : ℕ) → parity_after 0 r img S ≡ place_in r img S ((layout (geometry r)).parity S)
unfolding parity_after advance_stores stored recorded
parity_first r img S = refl

pub parity_last : (e : Event) (r : Record) (k S : ℕ) → e.call ≡ advance k → parity_after k r e.images S ≡ place_in r (act e r).images S ((layout (geometry (act e r).state)).parity S)
unfolding parity_after effect
parity_last e r k S q = rw q refl

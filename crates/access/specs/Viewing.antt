-- Where a view begins; and which view it is, before its part is taken.
use Rattle.std.specs.Prelude.{ℕ, zero, suc, ◌+◌, List, [], Result, Ok, Err}
use Rattle.blocks.specs.Block.{block_at}
use Rattle.access.specs.declared.types.Choice.{Choice}
use Rattle.access.specs.declared.types.Choice.TheVariants as choice
use Rattle.calls.specs.Effect.{View, part, scratch}
use Rattle.refusals.specs.declared.types.Refusal.{Refusal}

-- "returns the block as a part of the images, or, if its disk is out, as the lent scratch": where the view begins, given the call's number,
-- where the block is to be had, and where those two begin
abbrev pub begins : ℕ → View → ℕ × ℕ → ℕ × ℕ → ℕ × ℕ
begins zero (part at len) img scr = (img.0, at + img.1)
begins zero scratch img scr = scr
begins (suc k) v img scr = img

-- what is chosen of it
abbrev pub choice_of : View → Choice
choice_of (part at len) = choice.Part at
choice_of scratch = choice.Scratch

-- the bytes that a choice shows, given the block's size, the images, and the scratch as it is left ..
abbrev pub chosen_bytes : Result Choice Refusal → ℕ → List ℕ → List ℕ → List ℕ
chosen_bytes (Ok (choice.Part at)) len img scr = block_at img at len
chosen_bytes (Ok choice.Scratch) len img scr = scr
chosen_bytes (Err e) len img scr = []

-- .. where they begin ..
abbrev pub chosen_start : Result Choice Refusal → ℕ × ℕ → ℕ × ℕ → ℕ × ℕ
chosen_start (Ok (choice.Part at)) img scr = (img.0, at + img.1)
chosen_start (Ok choice.Scratch) img scr = scr
chosen_start (Err e) img scr = img

-- .. and the bytes of the images that it needs: up to the end of its part
abbrev pub ends : Result Choice Refusal → ℕ → ℕ
ends (Ok (choice.Part at)) len = at + len
ends (Ok choice.Scratch) len = 0
ends (Err e) len = 0

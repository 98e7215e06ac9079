-- What the enums and structs say, value by value, for every value: no field of one stands for another. (The prover has a value's fields by
-- their order: that of their names is held by tests/tests/contracts.rs.) `tells` of proofs/Theorem.antt proves it.
use Rattle.std.specs.Prelude.{ℕ, ◌≡◌, ◌⊎◌, ◌≤◌, Option, None, Some, Result, Ok, Err}
use Rattle.layout.specs.declared.Role.{Role}
use Rattle.layout.specs.declared.Standing.{Standing}
use Rattle.state.specs.declared.types.Health.{Health}
use Rattle.state.specs.declared.types.Record.{Record}
use Rattle.refusals.specs.declared.types.Refusal.{Refusal}
use Rattle.refusals.specs.declared.types.Refusal.TheVariants as refusal
use Rattle.refusals.specs.declared.types.Progress.{Progress}
use Rattle.refusals.specs.declared.types.Figures.{Figures}
use Rattle.refusals.specs.declared.types.Swept.{Swept}
use Rattle.calls.specs.Call.{refused, done, made, all_sound, unsound_at, figures, placed, owned}
use Rattle.refusals.specs.Answers.{refusal_number, number_of, count_of, changed_answer, changed_record, counted_answer, counted_record}
use Rattle.refusals.specs.Answers.{report_answer, located_answer, owned_answer, swept_answer}

pub record Tells : Type 0 where
  -- document 01's words, in its order
  pub numbers : (refusal_number refusal.Record ≡ 1) × (refusal_number refusal.Lost ≡ 2) × (refusal_number refusal.Degraded ≡ 3)
      × (refusal_number refusal.Grown ≡ 4) × (refusal_number refusal.NothingToMove ≡ 5) × (refusal_number refusal.Geometry ≡ 6)
      × (refusal_number refusal.Images ≡ 7) × (refusal_number refusal.PastTheEnd ≡ 8) × (refusal_number refusal.BlockLength ≡ 9)
      × (refusal_number refusal.Disk ≡ 10)
  pub no_other_number : (e : Refusal) → (1 ≤ refusal_number e) × (refusal_number e ≤ 10)
  pub in_numbers : (e : Refusal) → (number_of {T = Unit {0}} (Ok tt) ≡ 0) × (number_of {T = Unit {0}} (Err e) ≡ refusal_number e)
  pub beside : (k : ℕ) (e : Refusal) → (number_of (Ok k) ≡ 0) × (number_of {T = ℕ} (Err e) ≡ refusal_number e)
      × (count_of (Ok k) ≡ k) × (count_of (Err e) ≡ 0)
  pub refusals : (e : Refusal) → let k = refusal_number e in (changed_answer (Err e) ≡ refused k) × (counted_answer (Err e) ≡ refused k)
      × (report_answer (Err e) ≡ refused k) × (located_answer (Err e) ≡ refused k)
      × (owned_answer (Err e) ≡ refused k) × (swept_answer (Err e) ≡ refused k)
  pub unchanged : (r : Record) (e : Refusal) → (changed_record r (Err e) ≡ r) × (counted_record r (Err e) ≡ r)
  pub changes : (r x : Record) → (changed_answer (Ok x) ≡ done) × (changed_record r (Ok x) ≡ x)
  pub counts : (r x : Record) (k : ℕ) → (counted_answer (Ok (record { made = k; rec = x })) ≡ made k)
      × (counted_record r (Ok (record { made = k; rec = x })) ≡ x)
  pub statuses : (c t all : ℕ) (h : Health) →
      report_answer (Ok (record { capacity = c; moves = t; total = all; health = h })) ≡ figures c t all h
  pub places : (x : Standing) → located_answer (Ok x) ≡ placed x
  pub owners : (o : Role) → owned_answer (Ok o) ≡ owned o
  pub sweeps : (S x : ℕ) → (swept_answer (Ok (record { unsound = None; read = x })) ≡ all_sound x)
      × (swept_answer (Ok (record { unsound = Some S; read = x })) ≡ unsound_at S x)
  -- no enum has another value, and no struct another field
  pub no_other_change : (x : Result Record Refusal) → ((e : Refusal) × (x ≡ Err e)) ⊎ ((r : Record) × (x ≡ Ok r))
  pub no_other_count : (x : Result Progress Refusal) → ((e : Refusal) × (x ≡ Err e)) ⊎ ((p : Progress) × (x ≡ Ok p))
  pub no_other_status : (x : Result Figures Refusal) → ((e : Refusal) × (x ≡ Err e)) ⊎ ((f : Figures) × (x ≡ Ok f))
  pub no_other_place : (x : Result Standing Refusal) → ((e : Refusal) × (x ≡ Err e)) ⊎ ((y : Standing) × (x ≡ Ok y))
  pub no_other_owner : (x : Result Role Refusal) → ((e : Refusal) × (x ≡ Err e)) ⊎ ((o : Role) × (x ≡ Ok o))
  pub no_other_sweep : (x : Result Swept Refusal) → ((e : Refusal) × (x ≡ Err e)) ⊎ ((y : Swept) × (x ≡ Ok y))
  pub no_other_find : (x : Option ℕ) → (x ≡ None) ⊎ ((S : ℕ) × (x ≡ Some S))
  pub no_other_field : (p : Progress) (f : Figures) (s : Swept) → (p ≡ record { made = p.made; rec = p.rec })
      × (f ≡ record { capacity = f.capacity; moves = f.moves; total = f.total; health = f.health })
      × (s ≡ record { unsound = s.unsound; read = s.read })

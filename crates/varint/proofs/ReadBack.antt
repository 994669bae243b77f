-- Where a writer answered with a place, its reader finds the value there, and that place: the round trips, over the answer of the writer. Assumes nothing.
use Rattle.std.proofs.Common.{◌≡◌, ℕ, ◌-◌, ◌^◌, ◌<◌, ◌≤◌, Bool, false, List, ℤ, pos, ap, arith}
use Rattle.std.specs.Prelude.{Result, Ok, Err, IfOk}
use lib.Signed.{mag}
use Rattle.varint.specs.Number.{read_at, narrowed, bytes_of, write_at}
use Rattle.varint.specs.Integer.{signed_at, plain, fitting, int_bytes, write_signed_at}
use Rattle.varint.specs.Answer.{plain_int, wrote}
use Rattle.varint.specs.declared.Refusal.{Refusal}
use Rattle.varint.proofs.RoundTrip.{round_trip, byte_round_trip}
use Rattle.varint.proofs.Answers.{done_int}
use Rattle.varint.proofs.SignedRoundTrip.{plain_round_trip, signed_round_trip}

module _ (v at : ℕ) (buf after : List ℕ) where
  reads_back : (w : ℕ) (r : Result ℕ Refusal) → 0 < w → w ≤ 64 → v < 2 ^ w → wrote at r after ≡ write_at (bytes_of v) buf at
      → IfOk r (λ p. plain_int (read_at w after at) ≡ done_int (pos v) false p)
  reads_back w (Ok p) some wide h e = ap plain_int (round_trip w v buf at some wide h e)
  reads_back w (Err n) some wide h e = tt

  pub u64_back : (r : Result ℕ Refusal) → v < 2 ^ 64 → wrote at r after ≡ write_at (bytes_of v) buf at
      → IfOk r (λ p. plain_int (read_at 64 after at) ≡ done_int (pos v) false p)
  u64_back r h e = reads_back 64 r (omega arith) (omega arith) h e

  pub u32_back : (r : Result ℕ Refusal) → v < 2 ^ 32 → wrote at r after ≡ write_at (bytes_of v) buf at
      → IfOk r (λ p. plain_int (read_at 32 after at) ≡ done_int (pos v) false p)
  u32_back r h e = reads_back 32 r (omega arith) (omega arith) h e

  pub u8_back : (r : Result ℕ Refusal) → v < 256 → wrote at r after ≡ write_at (bytes_of v) buf at
      → IfOk r (λ p. plain_int (narrowed 256 at (read_at 32 after at)) ≡ done_int (pos v) false p)
  u8_back (Ok p) h e = ap plain_int (byte_round_trip v buf at h e)
  u8_back (Err n) h e = tt

module _ (w at : ℕ) (v : ℤ) (buf after : List ℕ) (wide : w ≤ 64) (fits : mag v < 2 ^ (w - 1)) where
  pub int_back : (r : Result ℕ Refusal) → wrote at r after ≡ write_at (int_bytes v) buf at
      → IfOk r (λ p. fitting w at (plain (signed_at after at)) ≡ done_int v false p)
  int_back (Ok p) e = (plain_round_trip w v buf at wide fits e).1
  int_back (Err n) e = tt

  pub signed_back : (minus : Bool) (r : Result ℕ Refusal) → wrote at r after ≡ write_signed_at minus v buf at
      → IfOk r (λ p. fitting w at (signed_at after at) ≡ done_int v minus p)
  signed_back minus (Ok p) e = (signed_round_trip w v buf at wide fits minus e).1
  signed_back minus (Err n) e = tt

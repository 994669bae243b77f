-- In the arm for k + 1 bytes the number is from 128 ^ k to below 128 ^ (k + 1). Assumes nothing.
use Rattle.std.proofs.Common.{sym, arith}
use Rattle.varint.proofs.Writing.{one_byte, bytes_many}
use Rattle.varint.proofs.unsigned_numbers.length_u64.Goals as goal

pub returns-in-0-to-127 : goal.returns-in-0-to-127
returns-in-0-to-127 c = sym (one_byte _ (omega arith))

pub returns-in-128-to-16383 : goal.returns-in-128-to-16383
returns-in-128-to-16383 c = sym (bytes_many 1 _ (omega arith) (omega arith) (omega arith))

pub returns-in-16384-to-2097151 : goal.returns-in-16384-to-2097151
returns-in-16384-to-2097151 c = sym (bytes_many 2 _ (omega arith) (omega arith) (omega arith))

pub returns-in-2097152-to-268435455 : goal.returns-in-2097152-to-268435455
returns-in-2097152-to-268435455 c = sym (bytes_many 3 _ (omega arith) (omega arith) (omega arith))

pub returns-in-268435456-to-34359738367 : goal.returns-in-268435456-to-34359738367
returns-in-268435456-to-34359738367 c = sym (bytes_many 4 _ (omega arith) (omega arith) (omega arith))

pub returns-in-34359738368-to-4398046511103 : goal.returns-in-34359738368-to-4398046511103
returns-in-34359738368-to-4398046511103 c = sym (bytes_many 5 _ (omega arith) (omega arith) (omega arith))

pub returns-in-4398046511104-to-562949953421311 : goal.returns-in-4398046511104-to-562949953421311
returns-in-4398046511104-to-562949953421311 c = sym (bytes_many 6 _ (omega arith) (omega arith) (omega arith))

pub returns-in-562949953421312-to-72057594037927935 : goal.returns-in-562949953421312-to-72057594037927935
returns-in-562949953421312-to-72057594037927935 c = sym (bytes_many 7 _ (omega arith) (omega arith) (omega arith))

pub returns-in-72057594037927936-to-9223372036854775807 : goal.returns-in-72057594037927936-to-9223372036854775807
returns-in-72057594037927936-to-9223372036854775807 c = sym (bytes_many 8 _ (omega arith) (omega arith) (omega arith))

pub returns-in_default : goal.returns-in_default
returns-in_default c = sym (bytes_many 9 _ (omega arith) (omega arith) (omega arith))

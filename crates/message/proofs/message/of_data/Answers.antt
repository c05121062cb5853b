use mathlib.Core.Path.{◌≡◌, refl, sym, ap, ◌∙◌}
use lib.ListN.{length}
use native.Mathlib.Omega.{arith}
use Prim.Native.Nat.{ℕ}
use Rattle.message.proofs.Laws.Accepts.{every_plain, every_login, every_request, every-zones, every-events, every-texts}
use Rattle.message.proofs.Laws.Fault.{texts_in_lem}
use Rattle.message.proofs.Laws.Kinds.{of_type, made, log_length, log_made, command_length, command_made, last_type}
use Rattle.message.proofs.Laws.Lists.{pairs-length}
use Rattle.message.proofs.Laws.Sized.{few}
use Rattle.message.specs.Lists.{zone_of, word_of}
use Rattle.message.specs.Message.{message_of, with_data, counted}
use Rattle.message.specs.declared.message.Fixed.TheVariants as F
use Rattle.message.specs.declared.message.Message.TheVariants as C
use Rattle.message.proofs.message.of_data.Goals as goal

pub bounds-data-0 : goal.bounds-data-0
unfolding message_of with_data
bounds-data-0 c =
    let d = c.args.«data».now in
    omega (arith, of_type c.args.kind d c.requires 0x20 c.in-32.is (λ _. length d ≡ 4) (every_login (λ _. length d ≡ 4) d (λ four. four)))

pub bounds-data-1 : goal.bounds-data-1
unfolding message_of with_data
bounds-data-1 c =
    let d = c.args.«data».now in
    omega (arith, of_type c.args.kind d c.requires 0x20 c.in-32.is (λ _. length d ≡ 4) (every_login (λ _. length d ≡ 4) d (λ four. four)))

pub bounds-data-2 : goal.bounds-data-2
unfolding message_of with_data
bounds-data-2 c =
    let d = c.args.«data».now in
    omega (arith, of_type c.args.kind d c.requires 0x20 c.in-32.is (λ _. length d ≡ 4) (every_login (λ _. length d ≡ 4) d (λ four. four)))

pub bounds-data-3 : goal.bounds-data-3
unfolding message_of with_data
bounds-data-3 c =
    let d = c.args.«data».now in
    omega (arith, of_type c.args.kind d c.requires 0x20 c.in-32.is (λ _. length d ≡ 4) (every_login (λ _. length d ≡ 4) d (λ four. four)))

pub bounds-data-0-in-21 : goal.bounds-data-0-in-21
unfolding message_of with_data
bounds-data-0-in-21 c =
    let d = c.args.«data».now in
    omega (arith, of_type c.args.kind d c.requires 0x15 c.in-21.is (λ _. length d ≡ 2) (every_request (λ _. length d ≡ 2) d (λ two. two)))

pub bounds-data-1-in-21 : goal.bounds-data-1-in-21
unfolding message_of with_data
bounds-data-1-in-21 c =
    let d = c.args.«data».now in
    omega (arith, of_type c.args.kind d c.requires 0x15 c.in-21.is (λ _. length d ≡ 2) (every_request (λ _. length d ≡ 2) d (λ two. two)))

pub overflow_cast-result : goal.overflow_cast-result
overflow_cast-result c = omega (arith, few c.args.«data».now c.args.kind c.requires.0 c.requires.1)

pub overflow_cast-result-in-35 : goal.overflow_cast-result-in-35
overflow_cast-result-in-35 c = omega (arith, few c.args.«data».now c.args.kind c.requires.0 c.requires.1)

pub overflow_cast-data : goal.overflow_cast-data
overflow_cast-data c = omega (arith, few c.args.«data».now c.args.kind c.requires.0 c.requires.1)

pub returns-in-5 : goal.returns-in-5
unfolding message_of
returns-in-5 c =
    let d = c.args.«data».now in
    made c.args.kind d c.requires 5 c.in-5.is (C.Fixed F.Acknowledge) (every_plain (λ m. C.Fixed F.Acknowledge ≡ counted m) F.Acknowledge d (λ _. refl))

pub returns-in-6 : goal.returns-in-6
unfolding message_of
returns-in-6 c =
    let d = c.args.«data».now in
    made c.args.kind d c.requires 6 c.in-6.is (C.Fixed F.NegativeAcknowledge) (every_plain (λ m. C.Fixed F.NegativeAcknowledge ≡ counted m) F.NegativeAcknowledge d (λ _. refl))

pub returns-in-13 : goal.returns-in-13
unfolding message_of
returns-in-13 c =
    let d = c.args.«data».now in
    made c.args.kind d c.requires 13 c.in-13.is (C.Fixed F.UploadEventLog) (every_plain (λ m. C.Fixed F.UploadEventLog ≡ counted m) F.UploadEventLog d (λ _. refl))

pub returns-in-17 : goal.returns-in-17
unfolding message_of
returns-in-17 c =
    let d = c.args.«data».now in
    made c.args.kind d c.requires 17 c.in-17.is (C.Fixed F.RequestSystemInformation) (every_plain (λ m. C.Fixed F.RequestSystemInformation ≡ counted m) F.RequestSystemInformation d (λ _. refl))

pub returns-in-19 : goal.returns-in-19
unfolding message_of
returns-in-19 c =
    let d = c.args.«data».now in
    made c.args.kind d c.requires 19 c.in-19.is (C.Fixed F.RequestSystemStatus) (every_plain (λ m. C.Fixed F.RequestSystemStatus ≡ counted m) F.RequestSystemStatus d (λ _. refl))

pub returns-in-33 : goal.returns-in-33
unfolding message_of
returns-in-33 c =
    let d = c.args.«data».now in
    made c.args.kind d c.requires 33 c.in-33.is (C.Fixed F.Logout) (every_plain (λ m. C.Fixed F.Logout ≡ counted m) F.Logout d (λ _. refl))

pub returns-in-34 : goal.returns-in-34
unfolding message_of
returns-in-34 c =
    let d = c.args.«data».now in
    made c.args.kind d c.requires 34 c.in-34.is (C.Fixed F.RequestSystemEvents) (every_plain (λ m. C.Fixed F.RequestSystemEvents ≡ counted m) F.RequestSystemEvents d (λ _. refl))

pub returns-in-32 : goal.returns-in-32
unfolding message_of with_data
returns-in-32 c = made c.args.kind c.args.«data».now c.requires 0x20 c.in-32.is _ (every_login _ c.args.«data».now (λ _. refl))

pub returns-in-21 : goal.returns-in-21
unfolding message_of with_data
returns-in-21 c = made c.args.kind c.args.«data».now c.requires 0x15 c.in-21.is _ (every_request _ c.args.«data».now (λ _. refl))

pub returns-in-22 : goal.returns-in-22
unfolding message_of with_data
returns-in-22 c =
    let d = c.args.«data».now in
    made c.args.kind d c.requires 0x16 c.in-22.is _ (every-zones _ d (λ _ _. ap (λ (n : ℕ). C.ZoneStatus n) (sym (pairs-length zone_of d))))

pub returns-in-35 : goal.returns-in-35
unfolding message_of with_data
returns-in-35 c =
    let d = c.args.«data».now in
    made c.args.kind d c.requires 0x23 c.in-35.is _ (every-events _ d (λ _. ap (λ (n : ℕ). C.Events n) (sym (pairs-length word_of d))))

pub returns-in-37 : goal.returns-in-37
unfolding message_of with_data
returns-in-37 c =
    let d = c.args.«data».now in
    made c.args.kind d c.requires 0x25 c.in-37.is _
    (every-texts _ d (λ listed _. ap (λ (n : ℕ). C.MessageStatus n) (c.texts_in.ensures ∙ sym (texts_in_lem d listed))))

pub log_of-requires : goal.log_of-requires
log_of-requires c = log_length c.args.kind c.args.«data».now c.requires c.in-14.is

pub returns-in-14 : goal.returns-in-14
returns-in-14 c = log_made c.args.kind c.args.«data».now c.requires c.in-14.is _ c.log_of.ensures

pub of_data-requires : goal.of_data-requires
of_data-requires c =
    let last : c.args.kind ≡ 0x0F = last_type c.args.kind c.args.«data».now c.requires
    (λ h. omega arith) (λ h. omega arith) (λ h. omega arith) (λ h. omega arith) (λ h. omega arith) (λ h. omega arith) (λ h. omega arith) (λ h. omega arith) (λ h. omega arith) (λ h. omega arith) (λ h. omega arith) (λ h. omega arith) (λ h. omega arith) in
    command_length c.args.kind c.args.«data».now c.requires last

pub returns-in_default : goal.returns-in_default
returns-in_default c =
    let last : c.args.kind ≡ 0x0F = last_type c.args.kind c.args.«data».now c.requires
    (λ h. omega arith) (λ h. omega arith) (λ h. omega arith) (λ h. omega arith) (λ h. omega arith) (λ h. omega arith) (λ h. omega arith) (λ h. omega arith) (λ h. omega arith) (λ h. omega arith) (λ h. omega arith) (λ h. omega arith) (λ h. omega arith) in
    command_made c.args.kind c.args.«data».now c.requires last _ c.of_data.ensures

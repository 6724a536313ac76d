-- The types of messages by their numbers (FIDO Device Onboard 1.1, sections 5.2 to 5.5).
use Rattle.std.specs.Prelude.{ℕ}

abbrev pub app_start : ℕ
app_start = 10

abbrev pub set_credentials : ℕ
set_credentials = 11

abbrev pub set_hmac : ℕ
set_hmac = 12

abbrev pub di_done : ℕ
di_done = 13

abbrev pub hello : ℕ
hello = 20

abbrev pub hello_ack : ℕ
hello_ack = 21

abbrev pub owner_sign : ℕ
owner_sign = 22

abbrev pub accept_owner : ℕ
accept_owner = 23

abbrev pub hello_rv : ℕ
hello_rv = 30

abbrev pub hello_rv_ack : ℕ
hello_rv_ack = 31

abbrev pub prove_to_rv : ℕ
prove_to_rv = 32

abbrev pub rv_redirect : ℕ
rv_redirect = 33

abbrev pub hello_device : ℕ
hello_device = 60

abbrev pub prove_ov_hdr : ℕ
prove_ov_hdr = 61

abbrev pub get_ov_next_entry : ℕ
get_ov_next_entry = 62

abbrev pub ov_next_entry : ℕ
ov_next_entry = 63

abbrev pub prove_device : ℕ
prove_device = 64

abbrev pub setup_device : ℕ
setup_device = 65

abbrev pub device_ready : ℕ
device_ready = 66

abbrev pub owner_ready : ℕ
owner_ready = 67

abbrev pub device_info : ℕ
device_info = 68

abbrev pub owner_info : ℕ
owner_info = 69

abbrev pub done : ℕ
done = 70

abbrev pub done2 : ℕ
done2 = 71

abbrev pub error : ℕ
error = 255

-- The types of the extensions that are opened: RULES 11.3.
use Rattle.refusal.specs.{ℕ}

-- RFC 6066 3
abbrev pub server_name_ext : ℕ
server_name_ext = 0x0000

-- RFC 6066 4
abbrev pub max_fragment_length_ext : ℕ
max_fragment_length_ext = 0x0001

-- RFC 8422 5.1.1
abbrev pub supported_groups_ext : ℕ
supported_groups_ext = 0x000a

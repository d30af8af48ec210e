-- Document 01, "Keys, pads and hashes": "All hashes are BLAKE2s with 32 bytes out." Their messages are those of crate `messages`.
use Rattle.std.specs.Prelude.{List, ℕ}
use Rattle.messages.specs.Messages.{nugget_message, tag_message, tag_letter, check_message, seal_message}
use Rattle.blake2s.specs.Hash.{blake2s}
use Rattle.keys.specs.declared.Lock.{Lock}

-- "Nugget key: keyed with the nugget's secret, `N`, salt, nugget (4 bytes)."
unfoldable pub nugget_key : List ℕ → List ℕ → ℕ → List ℕ
nugget_key secret salt n = blake2s secret (nugget_message salt n)

-- "Tag key: keyed with the nugget key, `F`, flake (2), keycount (8)."; in version 2 `G`
unfoldable pub tag_key : Lock → ℕ → List ℕ
tag_key lock f = blake2s lock.key (tag_message (tag_letter lock.version) f lock.keycount)

-- "Old-secret check: keyed with the old secret, `O`, salt, head epoch (2)."
unfoldable pub check_of : List ℕ → List ℕ → ℕ → List ℕ
check_of old salt epoch = blake2s old (check_message salt epoch)

-- "Seal: keyed with the present secret, `H`, head bytes 0-71, node 1."
unfoldable pub seal_of : List ℕ → List ℕ → List ℕ → List ℕ
seal_of secret front node = blake2s secret (seal_message front node)

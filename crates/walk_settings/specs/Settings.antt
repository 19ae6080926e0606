-- The settings of the order-preserving walk in code. These are definitions.
use Rattle.walks.specs.OrderPreserving as walk
use Rattle.walk_settings.specs.declared.Settings.{Settings}

-- The settings as the walks have them
abbrev pub settings_of : Settings → walk.Settings
settings_of s = record { spr = s.spr; spm = s.spm; prefer = s.prefer }

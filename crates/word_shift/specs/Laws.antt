-- Consequences of the definitions, for every width where they hold for every width.
pub mod Rotation
pub mod Shifts
pub mod Nominal
pub mod Floating
